-- What the inertia of a beam with its flange is: document 001's own, exactly, and then rounded down. A reader who has 02's formula need not read this file.
-- The section is b by h with p by t beside its upper edge (b_w, H, b_1 and h_f of the document; b_1 on either side of an inner beam). Depths are measured
-- from that edge in units of 1/(2A) mm, A being the area, because ȳ is a whole number of those.
-- Assumes nothing.
use Rattle.std.specs.Prelude.{ℕ, ◌+◌, ◌*◌, ◌≡◌, ℤ, pos, ◌+ℤ◌, ◌-ℤ◌, ◌*ℤ◌}
use Rattle.numbers.specs.Rounding.{floor_of}
use Rattle.stiffness.specs.Sections.{cube, area, inertia, apart}

-- A
abbrev pub whole_area : ℕ → ℕ → ℕ → ℕ → ℕ
whole_area b h p t = area b h + area p t

-- n mm in those units
abbrev pub in_units : ℕ → ℕ → ℕ → ℕ → ℕ → ℕ
in_units b h p t n = 2 * whole_area b h p t * n

-- "ȳ = (b_w·H²/2 + b_1·h_f²/2)/(b_w·H + b_1·h_f)"
abbrev pub centroid : ℕ → ℕ → ℕ → ℕ → ℕ
centroid b h p t = b * (h * h) + p * (t * t)

abbrev pub cubeℤ : ℤ → ℤ
cubeℤ z = z *ℤ z *ℤ z

-- "I_b = (b_w + b_1)·ȳ³/3 + b_w·(H − ȳ)³/3 − b_1·(ȳ − h_f)³/3", thrice; ȳ may lie within the flange
abbrev pub thrice : ℕ → ℕ → ℕ → ℕ → ℤ
thrice b h p t =
    pos (b + p) *ℤ cubeℤ (pos (centroid b h p t))
    +ℤ pos b *ℤ cubeℤ (pos (in_units b h p t h) -ℤ pos (centroid b h p t))
    -ℤ pos p *ℤ cubeℤ (pos (centroid b h p t) -ℤ pos (in_units b h p t t))

-- before rounding, twelve times I_b is b·h³ + p·t³ + 3·(b·h)·(p·t)·(h − t)²/A: both sides times (2A)³, as the unit requires
abbrev pub Exact : ℕ → ℕ → ℕ → ℕ → Type 0
Exact b h p t =
    pos 4 *ℤ thrice b h p t
    ≡ pos (8 * (whole_area b h p t * whole_area b h p t) * (whole_area b h p t * (inertia b h + inertia p t) + apart b h p t))

-- n is twelve times it in mm⁴, rounded down
abbrev pub IsInertia : ℕ → ℕ → ℕ → ℕ → ℕ → Type 0
IsInertia b h p t n = pos n ≡ floor_of (pos 4 *ℤ thrice b h p t) (cube (2 * whole_area b h p t))
