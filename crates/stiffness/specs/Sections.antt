-- "Line stiffness", of a rectangle of concrete, of a beam with its flange, and of the beam on an outer line.
-- Assumes nothing.
use Rattle.std.specs.Prelude.{ℕ, ◌+◌, ◌-◌, ◌*◌, ◌/◌, min, max, Bool, cond, eqb}

abbrev pub cube : ℕ → ℕ
cube x = x * x * x

-- "0 without a beam", whose width then reads 0
abbrev pub of_beam : ℕ → ℕ → ℕ
of_beam b n = cond (eqb b 0) 0 n

abbrev pub area : ℕ → ℕ → ℕ
area b h = b * h

-- b·h³: twelve times the inertia of a rectangle
unfoldable pub inertia : ℕ → ℕ → ℕ
inertia b h = b * cube h

-- "Each rectangle, x the shorter side, gives x³(100y − 63x)"
unfoldable pub torsion : ℕ → ℕ → ℕ
torsion a b = cube (min a b) * (100 * max a b - 63 * min a b)

-- "flange f = min(h − t, 4t)"
unfoldable pub flange : ℕ → ℕ → ℕ
flange h t = min (h - t) (4 * t)

-- 02, Two: "p = f outside and 2f inside"
abbrev pub overhang : Bool → ℕ → ℕ → ℕ
overhang outer h t = cond outer (flange h t) (2 * flange h t)

-- "3·(b·h)·(p·t)·(h − t)²": what the distance between the centroids of b by h and p by t adds, times the whole area
abbrev pub apart : ℕ → ℕ → ℕ → ℕ → ℕ
apart b h p t = 3 * area b h * area p t * ((h - t) * (h - t))

-- "twelve times the inertia is b·h³ + p·t³ + 3·(b·h)·(p·t)·(h − t)²/(b·h + p·t), the last term rounded down"
unfoldable pub flanged_inertia : ℕ → ℕ → ℕ → ℕ → ℕ
flanged_inertia b h p t = inertia b h + inertia p t + apart b h p t / (area b h + area p t)

-- "T is the larger of (b by h) + (f by t) and (b by h − t) + ((b + f) by t)"
unfoldable pub edge_torsion : ℕ → ℕ → ℕ → ℕ
edge_torsion b h t =
    of_beam b
    (max (torsion b h + torsion (flange h t) t) (torsion b (h - t) + torsion (b + flange h t) t))
