-- "The table has sixteen 32-bit numbers per span: Mo, then low end, between, high end, each as total, column, middle, beam, slab."
-- Assumes nothing.
use Rattle.std.specs.Prelude.{ℕ, cond, List, [], ◌∷◌, ◌++◌, eqb}
use Rattle.layouts.specs.declared.Layout.{Layout}
use Rattle.stiffness.specs.Sections.{edge_torsion}
use Rattle.strips.specs.declared.endspan.SpanPlace.{SpanPlace}
use Rattle.strips.specs.declared.endspan.SpanPlace.TheVariants.{OuterEnd, Between, InnerEnd}
use Rattle.strips.specs.declared.strip.Strips.{Strips}
use Rattle.strips.specs.EndTable.{section_total, inner_percent, end_percent}
use Rattle.strips.specs.Ratios.{torsion_ratio}
use Rattle.strips.specs.Strips.{between, inner_negative, outer_negative, even_strip, column_strip, split}
use Rattle.spans.specs.declared.view.EndView.{EndView}
use Rattle.spans.specs.declared.view.View.{View}
use Rattle.spans.specs.declared.work.SpanWork.{SpanWork}
use Rattle.spans.specs.declared.«record».Percents.{Percents}
use Rattle.spans.specs.Works.{span_work}

-- ---- p: an end span has its outer end's row of the end-span table, an inner span the percentages of inner spans

-- in a span whose low end is an outer end with this code; and in one whose high end is
abbrev pub first_span : ℕ → Layout → Percents
first_span code layout =
    record { low = end_percent code layout OuterEnd; between = end_percent code layout Between; high = end_percent code layout InnerEnd }

abbrev pub last_span : ℕ → Layout → Percents
last_span code layout =
    record { low = end_percent code layout InnerEnd; between = end_percent code layout Between; high = end_percent code layout OuterEnd }

-- either, by the places that its low and its high section have from the outer end
abbrev pub end_span : ℕ → Layout → SpanPlace → SpanPlace → Percents
end_span code layout low high =
    record { low = end_percent code layout low; between = end_percent code layout Between; high = end_percent code layout high }

abbrev pub inner_span : Percents
inner_span = record { low = inner_percent InnerEnd; between = inner_percent Between; high = inner_percent InnerEnd }

-- no span of a clear floor has two outer ends
unfoldable pub percents_of : Layout → EndView → EndView → Percents
percents_of layout low high =
    cond low.outer (first_span low.code layout) (cond high.outer (last_span high.code layout) inner_span)

-- ---- the column strip at an end

-- B
abbrev pub torsion_of : SpanWork → EndView → ℕ
torsion_of w e = torsion_ratio (edge_torsion e.width e.depth w.t) w.l2 w.t

unfoldable pub outer_part : SpanWork → EndView → ℕ
outer_part w e = outer_negative w.a w.r (torsion_of w e)

-- "On a fully restrained side the outer negative spreads evenly instead"
abbrev pub end_column : SpanWork → EndView → ℕ → ℕ
end_column w e total =
    cond e.outer
    (cond (eqb e.code 2) (even_strip total w.strip w.width) (column_strip total (outer_part w e)))
    (column_strip total (inner_negative w.a w.r))

-- ---- the three sections, each with its p

abbrev pub total_at : SpanWork → ℕ → ℕ
total_at w percent = section_total percent w.moment

unfoldable pub end_strips : SpanWork → EndView → ℕ → Strips
end_strips w e percent = split (total_at w percent) (end_column w e (total_at w percent)) w.a

unfoldable pub between_strips : SpanWork → ℕ → Strips
between_strips w percent = split (total_at w percent) (column_strip (total_at w percent) (between w.a w.r)) w.a

-- ---- the record

abbrev pub five : Strips → List ℕ
five s = s.total ∷ s.column ∷ s.middle ∷ s.beam ∷ s.slab ∷ []

abbrev pub in_order : ℕ → Strips → Strips → Strips → List ℕ
in_order moment low middle high = moment ∷ (five low ++ (five middle ++ five high))

abbrev pub percents_in : View → Percents
percents_in v = percents_of v.slab.layout v.low v.high

unfoldable pub record_of : View → List ℕ
record_of v =
    in_order (span_work v).moment (end_strips (span_work v) v.low (percents_in v).low) (between_strips (span_work v) (percents_in v).between)
    (end_strips (span_work v) v.high (percents_in v).high)
