-- The thickness of specs/ is the least that 01 and 02, Three, ask, between 90 and 423, and the only such number.
-- Each of the three rules of 01 asks n ≤ t·d and t ≥ m, so its least t is n/d rounded up; 422 meets each, so none is above it, and 384 meets the two that
-- can be raised.
-- Whatever P is, its least number raised by ten percent is the least that `Raised P` allows (`least_raised`), so that the three rules are not looked at
-- again.
-- And what is enough is enough for every t above it (`enough_on`), so that t is below the least exactly where it is not enough.
-- Assumes nothing.
use Prim.Native.Nat.{ℕ, ◌+◌, ◌*◌, ◌-◌, ◌/◌, ◌≤◌, ◌<◌, min, max}
use mathlib.Core.Bool.{Bool, true, false, cond, ◌&&◌, false≢true}
use mathlib.Core.List.{[]}
use mathlib.Core.Path.{◌≡◌, refl}
use native.Mathlib.Omega.{arith}
use lib.Dec.{ltb, eqb, leb, lit≤}
use lib.ListN.{get_or}
use Rattle.numbers.specs.Least.{Least, least_one}
use Rattle.numbers.specs.Tests.{until, all}
use Rattle.numbers.proofs.Bounded.{◌⊕◌, ◌⊗◌, #}
use Rattle.numbers.proofs.Rounded.{least_up, least_up_scaled}
use Rattle.numbers.proofs.Tests.{says_and, says_as, says_le, says_one, at}
use Rattle.thickness.specs.declared.Panel.{Panel}
use Rattle.thickness.specs.declared.PanelPlace.{PanelPlace}
use Rattle.thickness.specs.declared.PanelPlace.TheVariants.{Bare, Edged, Inner}
use Rattle.thickness.specs.Asked.{Answered, PanelSizes}
use Rattle.thickness.specs.LeastThickness.{divisors, grade_row, panel_column, divisor, by_stiffness, Stiff, Middling, Tabled, EnoughBy01, raises, Raised, Enough, stiff, middling, tabled, answer_of01, raised, least_thickness, Thinnest}

-- ---- the table

row_below : (fy : ℕ) → grade_row fy < 3
row_below fy = told (eqb fy 280) (eqb fy 420)
  where
    told : (a b : Bool) → cond a 0 (cond b 1 2) < 3
    told true b = lit≤ tt
    told false true = lit≤ tt
    told false false = lit≤ tt

column_below : (place : PanelPlace) → panel_column place < 3
column_below Bare = lit≤ tt
column_below Edged = lit≤ tt
column_below Inner = lit≤ tt

-- every entry of the table, tested by computing
abbrev in_table : ℕ → ℕ → Bool
in_table i j = let n = get_or (get_or divisors i []) j 0 in leb 28 n && leb n 36

pub divisor_in : (fy : ℕ) (place : PanelPlace) → (28 ≤ divisor fy place) × (divisor fy place ≤ 36)
unfolding divisor until
divisor_in fy place =
    (says_and (says_le 28 _) (says_le _ 36)).holds
    (at 3 (panel_column place) (in_table (grade_row fy)) (at 3 (grade_row fy) (λ i. all 3 (in_table i)) refl (row_below fy)) (column_below place))

-- ---- the panel

pub panel_of : {fy x y : ℕ} → fy ≤ 520 → (500 ≤ x) × (x ≤ 11800) → (500 ≤ y) × (y ≤ 11800) → PanelSizes fy (min x y) (max x y)
panel_of g x y = record { grade = g; least = omega arith; order = omega arith; most = omega arith }

pub shorter_most : {fy sn ln : ℕ} → PanelSizes fy sn ln → sn ≤ 11800
shorter_most p = omega arith

-- ---- the three rules

-- p is the least number with P, and from 90 to `most`
abbrev Found : ℕ → (ℕ → Type 0) → ℕ → Type 0
Found most P p = Least P p × (90 ≤ p) × (p ≤ most)

found : {P : ℕ → Type 0} {p : ℕ} (most : ℕ) → Least P p → 90 ≤ p → P most → Found most P p
found most l from enough = (l, from, l.first most enough)

wider : {P : ℕ → Type 0} {p : ℕ} → Found 384 P p → Found 422 P p
wider l = (l.0, l.1, omega (arith, l.2))

module _ (fy sn ln S : ℕ) (p : PanelSizes fy sn ln) where
  least_stiff : Found 384 (Stiff fy sn ln) (stiff fy sn ln)
  unfolding Stiff stiff
  least_stiff =
      let l = least_up_scaled 1400 (36 * sn + 9 * ln) (ln * sn * (1120 + fy)) 90 (omega arith) in
      found 384 l l.holds.1 (omega (arith, p.most ⊗ # sn ⊗ (# 1120 ⊕ p.grade)), lit≤ tt)

  least_middling : Found 384 (Middling fy sn ln S) (middling fy sn ln S)
  unfolding Middling middling
  least_middling =
      let l = least_up_scaled 1400 (1440000 * sn + 5 * ln * (S - 8000)) (40000 * ln * sn * (1120 + fy)) 125 (omega arith) in
      found 384 l (omega (arith, l.holds.1)) (omega (arith, # 40000 ⊗ p.most ⊗ # sn ⊗ (# 1120 ⊕ p.grade)), lit≤ tt)

  least_tabled : (n : ℕ) → 28 ≤ n → Found 422 (Tabled n ln) (tabled n ln)
  unfolding Tabled tabled
  least_tabled n h =
      let l = least_up ln 125 {d = n} (omega arith) in
      found 422 l (omega (arith, l.holds.1)) (omega arith, lit≤ tt)

-- ---- the case that is taken

by_case : (G : (ℕ → Type 0) → ℕ → Type 0) (everywhere : Bool) (S : ℕ) {P Q R : ℕ → Type 0} {p q r : ℕ} → G P p → G Q q → G R r
    → G (by_stiffness everywhere S P Q R) (by_stiffness everywhere S p q r)
by_case G everywhere S {P} {Q} {R} {p} {q} {r} x y z = told (everywhere && ltb 80000 S) (everywhere && ltb 8000 S)
  where
    told : (a b : Bool) → G (cond a P (cond b Q R)) (cond a p (cond b q r))
    told true b = x
    told false true = y
    told false false = z

least_by_01 : (p : Panel) → PanelSizes p.fy p.sn p.ln → Found 422 (EnoughBy01 p) (answer_of01 p)
unfolding EnoughBy01 answer_of01
least_by_01 p h =
    by_case (Found 422) p.everywhere p.s (wider (least_stiff p.fy p.sn p.ln p.s h)) (wider (least_middling p.fy p.sn p.ln p.s h))
    (least_tabled p.fy p.sn p.ln p.s h (divisor p.fy p.place) (divisor_in p.fy p.place).0)

-- an answer of 01 is one of which ten percent more can be worked out
pub answered : (p : Panel) {r : ℕ} → PanelSizes p.fy p.sn p.ln → r ≡ answer_of01 p → Answered r
answered p h e = record { most = rw e (least_by_01 p h).2 }

-- ---- ten percent more, whatever it is of

least_raised : {P : ℕ → Type 0} {a : ℕ} → Least P a → Least (Raised P) (raised a)
unfolding raised
least_raised {a = a} l =
    record {
      holds = record { answer = a; of01 = l; more = omega arith };
      first = λ t r. omega (arith, least_one r.of01 l, r.more);
    }

-- the rules that are raised have lower answers than the table
unraised : (p : Panel) → PanelSizes p.fy p.sn p.ln → raises p ≡ true → Found 384 (EnoughBy01 p) (answer_of01 p)
unfolding EnoughBy01 answer_of01 raises
unraised p h more =
    told (p.everywhere && ltb 80000 p.s) (p.everywhere && ltb 8000 p.s) (right p.weak (p.everywhere && ltb 8000 p.s) more)
  where
    right : (a b : Bool) → (a && b) ≡ true → b ≡ true
    right true b e = e
    right false b e = absurd (false≢true e)

    told : (a b : Bool) → b ≡ true
        → Found 384
        (cond a (Stiff p.fy p.sn p.ln) (cond b (Middling p.fy p.sn p.ln p.s) (Tabled (divisor p.fy p.place) p.ln)))
        (cond a (stiff p.fy p.sn p.ln) (cond b (middling p.fy p.sn p.ln p.s) (tabled (divisor p.fy p.place) p.ln)))
    told true b e = least_stiff p.fy p.sn p.ln p.s h
    told false true e = least_middling p.fy p.sn p.ln p.s h
    told false false e = absurd (false≢true e)

found_raised : (b : Bool) {P : ℕ → Type 0} {a : ℕ} → (b ≡ true → Found 384 P a) → Found 422 P a → Found 423 (cond b (Raised P) P) (cond b (raised a) a)
unfolding raised
found_raised true low l = (least_raised l.0, omega (arith, l.1), omega (arith, (low refl).2))
found_raised false low l = (l.0, l.1, omega (arith, l.2))

-- t is that much or more exactly where 10t/11, rounded down, is the answer of 01 or more: a test with no division by a variable
pub allowed : (b : Bool) (a t : ℕ) → leb (cond b (raised a) a) t ≡ leb a (cond b (10 * t / 11) t)
unfolding raised
allowed true a t =
    says_one (says_le (raised a) t) (says_as (λ h. omega (arith, h)) (λ h. omega (arith, h)) (says_le a (10 * t / 11)))
allowed false a t = refl

-- `Raised` is the same of statements that hold of the same numbers
pub raised_as : {P Q : ℕ → Type 0} {t : ℕ} → ((u : ℕ) → P u → Q u) → ((u : ℕ) → Q u → P u) → Raised P t → Raised Q t
raised_as to from r =
    record {
      answer = r.answer;
      of01 = record { holds = to _ r.of01.holds; first = λ u h. r.of01.first u (from u h) };
      more = r.more;
    }

pub least_thickness_lem : (p : Panel) → PanelSizes p.fy p.sn p.ln → Found 423 (Enough p) (least_thickness p)
unfolding Enough least_thickness
least_thickness_lem p h = found_raised (raises p) (unraised p h) (least_by_01 p h)

-- ---- a thicker slab is enough too

abbrev Rising : (ℕ → Type 0) → Type 0
Rising P = (t u : ℕ) → t ≤ u → P t → P u

rising_stiff : (fy sn ln : ℕ) → Rising (Stiff fy sn ln)
unfolding Stiff
rising_stiff fy sn ln t u h p = (omega (arith, p.0, # 1400 ⊗ h ⊗ # (36 * sn + 9 * ln)), omega (arith, h, p.1))

rising_middling : (fy sn ln S : ℕ) → Rising (Middling fy sn ln S)
unfolding Middling
rising_middling fy sn ln S t u h p =
    (omega (arith, p.0, # 1400 ⊗ h ⊗ # (1440000 * sn + 5 * ln * (S - 8000))), omega (arith, h, p.1))

rising_tabled : (n ln : ℕ) → Rising (Tabled n ln)
unfolding Tabled
rising_tabled n ln t u h p = (omega (arith, p.0, h ⊗ # n), omega (arith, h, p.1))

rising_raised : (b : Bool) {P : ℕ → Type 0} → Rising P → Rising (cond b (Raised P) P)
rising_raised true on t u h r = record { answer = r.answer; of01 = r.of01; more = omega (arith, h, r.more) }
rising_raised false on t u h r = on t u h r

rising_by_01 : (p : Panel) → Rising (EnoughBy01 p)
unfolding EnoughBy01
rising_by_01 p =
    by_case (λ P _. Rising P) p.everywhere p.s {p = 0} {q = 0} {r = 0} (rising_stiff p.fy p.sn p.ln)
    (rising_middling p.fy p.sn p.ln p.s) (rising_tabled (divisor p.fy p.place) p.ln)

pub enough_on : (p : Panel) → Rising (Enough p)
unfolding Enough
enough_on p = rising_raised (raises p) (rising_by_01 p)

-- the definition's number is the answer, and the answer is one
pub thinnest : {p : Panel} {r : ℕ} → PanelSizes p.fy p.sn p.ln → r ≡ least_thickness p → Thinnest p r
thinnest {p} h e =
    let l = least_thickness_lem p h in
    record { least = rw e l.0; is = e; from = rw e l.1; most = rw e l.2 }

pub thinnest_one : {p : Panel} {a b : ℕ} → Thinnest p a → Thinnest p b → a ≡ b
thinnest_one x y = least_one x.least y.least
