-- "Least thickness" of 01 and, on top of it, 02, Three: what is asked of t, and the number that it comes to.
-- sn and ln are the panel's shorter and longer clear spans, S the sum of its four line α; `weak` says that one of its lines is an outer one with α
-- below 8000. That such a panel's place is `Bare` is said where the place is worked out.
-- Assumes nothing.
use Rattle.std.specs.Prelude.{ℕ, ◌+◌, ◌-◌, ◌*◌, ◌≤◌, ◌<◌, max, Bool, cond, ◌&&◌, List, [], ◌∷◌, ◌≡◌, get_or, eqb, ltb}
use Rattle.numbers.specs.Rounding.{up}
use Rattle.numbers.specs.Least.{Least}
use Rattle.thickness.specs.declared.Bound.{Bound}
use Rattle.thickness.specs.declared.Panel.{Panel}
use Rattle.thickness.specs.declared.PanelPlace.{PanelPlace}
use Rattle.thickness.specs.declared.PanelPlace.TheVariants.{Bare, Edged, Inner}

-- "n for outer panel without edge beams, outer with, inner: fy 280: 33, 36, 36; fy 420: 30, 33, 33; fy 520: 28, 31, 31"
abbrev pub divisors : List (List ℕ)
divisors = (33 ∷ 36 ∷ 36 ∷ []) ∷ (30 ∷ 33 ∷ 33 ∷ []) ∷ (28 ∷ 31 ∷ 31 ∷ []) ∷ []

abbrev pub grade_row : ℕ → ℕ
grade_row fy = cond (eqb fy 280) 0 (cond (eqb fy 420) 1 2)

abbrev pub panel_column : PanelPlace → ℕ
panel_column Bare = 0
panel_column Edged = 1
panel_column Inner = 2

unfoldable pub divisor : ℕ → PanelPlace → ℕ
divisor fy place = get_or (get_or divisors (grade_row fy) []) (panel_column place) 0

-- "beams everywhere, S > 80000"; "beams everywhere, 8000 < S ≤ 80000"; "otherwise"
abbrev pub by_stiffness {ℓ} : {A : Type ℓ} → Bool → ℕ → A → A → A → A
by_stiffness everywhere S stiff middling other =
    cond (everywhere && ltb 80000 S) stiff (cond (everywhere && ltb 8000 S) middling other)

-- ---- what is asked of t

-- "1400·t·(36sn + 9ln) ≥ ln·sn·(1120 + fy), and t ≥ 90"
unfoldable pub Stiff : ℕ → ℕ → ℕ → ℕ → Type 0
Stiff fy sn ln t = (ln * sn * (1120 + fy) ≤ 1400 * t * (36 * sn + 9 * ln)) × (90 ≤ t)

-- "1400·t·(1440000sn + 5ln(S − 8000)) ≥ 40000·ln·sn·(1120 + fy), and t ≥ 125"
unfoldable pub Middling : ℕ → ℕ → ℕ → ℕ → ℕ → Type 0
Middling fy sn ln S t =
    (40000 * ln * sn * (1120 + fy) ≤ 1400 * t * (1440000 * sn + 5 * ln * (S - 8000))) × (125 ≤ t)

-- "t·n ≥ ln, t ≥ 125"
unfoldable pub Tabled : ℕ → ℕ → ℕ → Type 0
Tabled n ln t = (ln ≤ t * n) × (125 ≤ t)

-- the rule of 01 for the panel
unfoldable pub EnoughBy01 : Panel → ℕ → Type 0
EnoughBy01 p =
    by_stiffness p.everywhere p.s (Stiff p.fy p.sn p.ln) (Middling p.fy p.sn p.ln p.s)
    (Tabled (divisor p.fy p.place) p.ln)

-- 02, Three: "With beams everywhere and S above 8000, a panel having an outer line with α below 8000"
unfoldable pub raises : Panel → Bool
raises p = p.weak && (p.everywhere && ltb 8000 p.s)

-- "needs the least whole t with 10t ≥ 11 times the answer of 01", which is the least number with P
pub record Raised (P : ℕ → Type 0) (t : ℕ) : Type 0 where
  pub answer : ℕ
  pub of01 : Least P answer
  pub more : 11 * answer ≤ 10 * t

unfoldable pub Enough : Panel → ℕ → Type 0
Enough p = cond (raises p) (Raised (EnoughBy01 p)) (EnoughBy01 p)

-- ---- the number that it comes to

unfoldable pub stiff : ℕ → ℕ → ℕ → ℕ
stiff fy sn ln = max 90 (up (ln * sn * (1120 + fy)) (1400 * (36 * sn + 9 * ln)))

unfoldable pub middling : ℕ → ℕ → ℕ → ℕ → ℕ
middling fy sn ln S =
    max 125 (up (40000 * ln * sn * (1120 + fy)) (1400 * (1440000 * sn + 5 * ln * (S - 8000))))

unfoldable pub tabled : ℕ → ℕ → ℕ
tabled n ln = max 125 (up ln n)

unfoldable pub answer_of01 : Panel → ℕ
answer_of01 p =
    by_stiffness p.everywhere p.s (stiff p.fy p.sn p.ln) (middling p.fy p.sn p.ln p.s)
    (tabled (divisor p.fy p.place) p.ln)

-- 02, Three: ten percent more, rounded up
unfoldable pub raised : ℕ → ℕ
raised answer = up (11 * answer) 10

unfoldable pub least_thickness : Panel → ℕ
least_thickness p = cond (raises p) (raised (answer_of01 p)) (answer_of01 p)

-- the numbers of a rule: t is the least that it allows, and none is so large that its quotient or a slab's multiple would not fit
pub record Asks (t : ℕ) (rule : Bound) : Type 0 where
  pub is : max rule.least (up rule.n rule.d) ≡ t
  pub positive : 0 < rule.d
  pub n_most : rule.n ≤ 10000000000000000
  pub d_most : rule.d ≤ 40000000000000

-- "Answer the least whole mm t": what is promised of the answer r
pub record Thinnest (p : Panel) (r : ℕ) : Type 0 where
  pub least : Least (Enough p) r
  pub is : r ≡ least_thickness p
  pub from : 90 ≤ r
  pub most : r ≤ 423
