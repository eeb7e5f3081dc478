-- The starred figures of 01, and those of 02, Three, are what the definitions make, by computing: were one of them wrong, the claim would fail.
-- Assumes nothing.
use mathlib.Core.List.{[]}
use mathlib.Core.Path.{◌≡◌, refl}
use Rattle.numbers.specs.Figures.{wrong}
use Rattle.stiffness.specs.Sections.{inertia, torsion, flange, flanged_inertia, edge_torsion}
use Rattle.stiffness.specs.Lines.{alpha}
use Rattle.thickness.specs.LeastThickness.{divisor, raises, stiff, middling, tabled, answer_of01, raised, least_thickness}
use Rattle.strips.specs.Moments.{static_moment}
use Rattle.strips.specs.Ratios.{torsion_ratio}
use Rattle.strips.specs.Strips.{part, outer_negative, beam_share, split}
use Rattle.records.specs.Ranges.{materials_ok}
use Rattle.steel.specs.Query.{depth_listed, in_range, depth_of}
use Rattle.steel.specs.Area.{K}
use Rattle.steel.specs.Search.{first, first_within, least_within}
use Rattle.steel.specs.Steel.{minimum_area, strain_area, limits_of, steel_of}
use Rattle.gandhrumil.specs.Figures.{figures}

pub figures_hold : wrong figures ≡ []
unfolding figures inertia torsion flange flanged_inertia edge_torsion alpha divisor raises stiff middling tabled answer_of01 raised least_thickness static_moment torsion_ratio part outer_negative beam_share split materials_ok depth_listed in_range depth_of K first first_within least_within minimum_area strain_area limits_of steel_of
figures_hold = refl
