-- 17 by its reasons: on a clear floor it is given exactly where there is room and some strip has no width, no area that fits, or no bar that allows a spacing.
--     some_fails         a test of all numbers that fails, fails at one of them
--     lacks, never       a strip without bars lacks its steel for one of the reasons, and with one of them it has none
--     seventeen          so of the whole call
-- Assumes nothing.
use Prim.Native.Nat.{ℕ, zero, suc, ◌≤◌, ◌<◌}
use mathlib.Core.Bool.{Bool, true, false, not, ◌&&◌, false≢true}
use mathlib.Core.List.{List}
use mathlib.Core.Logic.{◌↔◌}
use mathlib.Core.Path.{◌≡◌, refl, sym, ap, ◌∙◌}
use native.Mathlib.Decide.{ℕ_discrete}
use native.Mathlib.Omega.{arith}
use lib.Dec.{eqb}
use lib.ListN.{length}
use borrow.Author.Tests.{not-false}
use Rattle.numbers.specs.Tests.{until, all, Some}
use Rattle.numbers.specs.Least.{least_one}
use Rattle.numbers.proofs.Tests.{says_eq}
use Rattle.floor.specs.Refusal.{refusal}
use Rattle.answers.specs.declared.Answer.{Answer}
use Rattle.limits.specs.Limits.{verdict}
use Rattle.tables.specs.Places.{record_count}
use Rattle.bars.proofs.Chosen.{choice_is}
use Rattle.frames.specs.Spans.{span_at}
use Rattle.steel.specs.declared.query.Query.{Query}
use Rattle.steel.specs.declared.strip.Reinforcement.{Reinforcement}
use Rattle.steel.specs.Query.{InRange}
use Rattle.steel.specs.Steel.{steel_of}
use Rattle.steel.specs.Strips.{strips, materials_of, entry_of, has_bars, span_barred, strip_query, reinforcement_of}
use Rattle.steel.specs.Barred.{StripSteel, Lacks, query_in, SomeLacks}
use Rattle.steel.specs.Barred.Lacks.{width, area, bar}
use Rattle.steel.specs.Schedule.{schedule_length, all_barred, Scheduled}
use Rattle.steel.proofs.Answers.{steel_answer}
use Rattle.steel.proofs.Reinforced.{laid_is, reinforced}
use Rattle.steel.proofs.Scheduled.{no_bars, all_good, refused_is, scheduled_is}
use Rattle.steel.proofs.Meaning.{says_barred}
use Rattle.steel.proofs.Inside.{in_range}

some_fails : (n : ℕ) (p : ℕ → Bool) → all n p ≡ false → Some n (λ k. p k ≡ false)
unfolding until
some_fails zero p e = absurd (false≢true (sym e))
some_fails (suc n) p e = told (all n p) (some_fails n p) e
  where
    told : (a : Bool) → (a ≡ false → Some n (λ k. p k ≡ false)) → (a && p n) ≡ false → Some (suc n) (λ k. p k ≡ false)
    told true before h = (n, omega arith, h)
    told false before h = let s = before refl in (s.0, omega (arith, s.1), s.2)

-- ---- one strip

module _ (query : Query) where
  -- where the query of a strip with a width is in range
  lacks : (0 < query.b → InRange query) → (reinforcement_of query).diameter ≡ 0 → Lacks query
  lacks ranged z =
      elim (ℕ_discrete query.b 0) [
        | yes none ↦ width none
        | no some ↦
            let wide : 0 < query.b = omega (arith, some) in
            let s = steel_answer query in
            elim (ℕ_discrete (steel_of query).refusal 0) [
              | yes found ↦
                  let v = (steel_of query).value in
                  let c = choice_is query.b v query.t (reinforced query refl found).area_least in
                  let e = ap (λ (r : Reinforcement). r.diameter) (laid_is query some refl found refl) in
                  bar wide v (s.least found) (c.none.0 (e ∙ z))
              | no refused ↦
                  area wide (λ As fits. refused (s.found.1 (ranged wide, (As, fits))))
            ]
      ]

  never : Lacks query → (r : Reinforcement) → ¬ StripSteel query r
  never (width z) r h = omega (arith, z, h.wide)
  never (area w none) r h = let f = (h.area.found.0 refl).1 in none f.0 f.1
  never (bar w As least none) r h =
      let e : As ≡ r.area = least_one least (h.area.least refl) in
      (rw e at none) r.diameter h.bars.each h.bars.bar r.spacing h.bars.spacing.holds

-- ---- the whole floor

module _ (f : List ℕ) (accepted : refusal f ≡ 0) (clear : verdict f ≡ 0) where
  unbarred : (all_barred f ≡ false) ↔ SomeLacks f
  unfolding all_barred entry_of strip_query
  unbarred = (
    λ e. let (k, hk, ek) = some_fails (record_count f) (λ j. span_barred (span_at f j) (materials_of f) j) e in
        let (q, hq, eq) = some_fails strips (λ j. has_bars (entry_of (span_at f k) (materials_of f) k j)) ek in
        (k, hk, (q, hq, lacks (query_in f k q) (in_range f accepted clear hk q) (no_diameter (reinforcement_of (query_in f k q)).diameter eq))),
    λ s. let (k, hk, (q, hq, lack)) = s in
        fails (all_barred f) (λ y. let h = (says_barred f).holds y k hk q hq in never (query_in f k q) lack h.0 h.1),
  )
    where
      no_diameter : (d : ℕ) → not (eqb d 0) ≡ false → d ≡ 0
      no_diameter d e = (says_eq d 0).holds (not-false (eqb d 0) e)

      fails : (b : Bool) → ¬ (b ≡ true) → b ≡ false
      fails true n = absurd (n refl)
      fails false n = refl

  -- with room for the schedule
  pub seventeen : {t t' : List ℕ} {a : Answer} → schedule_length f ≤ length t → Scheduled f t a t' → (a.refusal ≡ 17) ↔ SomeLacks f
  seventeen {t} {a = a} room p = told (all_barred f) refl
    where
      told : (b : Bool) → all_barred f ≡ b → (a.refusal ≡ 17) ↔ SomeLacks f
      told true e =
          let z : a.refusal ≡ 0 = ap (λ (x : Answer). x.refusal) (p.answer ∙ sym (scheduled_is f t (all_good f (length t) accepted clear room e)).answer) in
          (λ s. absurd (omega (arith, s, z)), λ s. absurd (false≢true (sym (unbarred.1 s) ∙ e)))
      told false e =
          let z : a.refusal ≡ 17 = ap (λ (x : Answer). x.refusal) (p.answer ∙ sym (refused_is f t (no_bars f (length t) accepted clear room e) (λ y. omega (arith, y))).answer) in
          (λ _. unbarred.0 e, λ _. z)
