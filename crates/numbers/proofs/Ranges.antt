-- What `(0..n).all(f)` and `(0..n).any(f)` answer, for a closure f that answers p k at each k: the tests `all n p` and `some n p`.
-- Std says which numbers the range gave and what the closure answered at them; this law says it in the words of specs/Tests. A function whose
-- body is such a call cites it once:
--     all_below _ _ _ (λ a r f h. search rules) (λ k b h. search rules) _ _ refl c.all.ensures.runs
-- Assumes nothing.
use mathlib.Core.Bool.{Bool, true, false, not}
use mathlib.Core.Path.{◌≡◌, sym, subst, ap, ◌∙◌}
use Prim.Native.Nat.{ℕ, ◌+◌}
use native.Mathlib.Omega.{arith}
use denote.Param.Members.{Mut, Called}
use Rattle.std.specs.declared.ops.Range.{Range}
use Rattle.std.specs.declared.ops.RangeInclusive.{RangeInclusive}
use Rattle.std.specs.Range.{range_inclusive_start, range_inclusive_end, range_inclusive_exhausted}
use Rattle.std.specs.Prelude.{Option, Some, None, IfSome, IsSomeAnd, MatchBool, IsTrue, option_map}
use Rattle.std.specs.Iterator.Runs.{Run, SomeRun, AllItemsGive, AnyItemGives, CallKeepsClosure, ItemsCountUp}
use Rattle.std.proofs.Common.{rules}
use Rattle.std.proofs.iter.Yields.{nat_range_steps}
use Rattle.std.proofs.iter.runs.Sources.{range_listed, inclusive_listed, nat_range_inclusive_steps}
use Rattle.numbers.specs.Tests.{until, all, some}
use Rattle.numbers.proofs.Tests.{every, found}

some_if : {A : Type 0} (o : Option A) (P : A → Type 0) → IsSomeAnd o P → IfSome o P
some_if (Some x) P h = h
some_if None P h = tt

-- a run over a range from 0 on counts up
below : (s : Range ℕ) → s.start ≡ 0 → (q : Run nat_range_steps) → q.from ≡ s → ItemsCountUp q 0 s.end
below s z q from = let l = range_listed q q.seen in
    subst (λ a. ItemsCountUp q a s.end) (l.2 ∙ (ap (λ (t : Range ℕ). t.start) from ∙ z))
    (subst (λ b. ItemsCountUp q l.0 b) (l.3 ∙ ap (λ (t : Range ℕ). t.end) from) l.4)

through : (s : RangeInclusive ℕ) → range_inclusive_start s ≡ 0 → range_inclusive_exhausted s ≡ false → (q : Run nat_range_inclusive_steps) → q.from ≡ s
    → ItemsCountUp q 0 (range_inclusive_end s + 1)
through s z fresh q from = let l = inclusive_listed q q.seen in
    subst (λ a. ItemsCountUp q a (range_inclusive_end s + 1)) (l.2 ∙ (ap range_inclusive_start from ∙ z))
    (subst (λ b. ItemsCountUp q l.0 b) (l.3 ∙ ap (λ t. range_inclusive_end t + 1) from) (l.4 (ap range_inclusive_exhausted from ∙ fresh)).0)

-- a closure that each call leaves as it was, and that answers p k at k
module _ {F : Type 0} (g : Mut F (ℕ × Unit {0}) Bool) (f : F) (p : ℕ → Bool) (keeps : CallKeepsClosure g f) (answers : (k : ℕ) (b : Bool) → Called g f (k, tt) b f → b ≡ p k) where
  met : (b : Bool) (o : Option ℕ) (k : ℕ) → option_map (λ y. y) o ≡ Some k → IfSome o (λ x. Called g f (x, tt) b f) → p k ≡ b
  met b (Some x) k e h = let q : x ≡ k = search rules in sym (answers k b (subst (λ y. Called g f (y, tt) b f) q h))
  met b None k e h = absurd (search rules)

  -- a run that counts up to n, in which the closure answered w nowhere, or somewhere
  module _ {S : Type 0} {steps : S → Option ℕ → S → Type 0} (q : Run steps) (n : ℕ) (up : ItemsCountUp q 0 n) (w : Bool) where
    nowhere : q.whole ≡ true → AllItemsGive q g f (not w) → until w n p ≡ not w
    nowhere whole h = every w n p (λ k lt. met (not w) (q.at k) k (up.3 k (omega (arith, up.1 whole)) ∙ ap Some (omega arith)) (h keeps k))

    somewhere : AnyItemGives q g f w → until w n p ≡ w
    somewhere h = let a = h keeps in
        found w n a.0 p (omega (arith, up.0, a.1)) (met w (q.at a.0) a.0 (up.3 a.0 a.1 ∙ ap Some (omega arith)) (some_if (q.at a.0) _ a.2))

  module _ {S : Type 0} {steps : S → Option ℕ → S → Type 0} (s : S) (n : ℕ) (up : (q : Run steps) → q.from ≡ s → ItemsCountUp q 0 n) (r : Bool) where
    every_item : SomeRun steps s (λ q. MatchBool r (IsTrue q.whole × AllItemsGive q g f true) (AnyItemGives q g f false)) → r ≡ all n p
    every_item h = by r h.2
      where
        by : (r : Bool) → MatchBool r (IsTrue h.0.whole × AllItemsGive h.0 g f true) (AnyItemGives h.0 g f false) → r ≡ all n p
        by true m = sym (nowhere h.0 n (up h.0 h.1) false m.0 m.1)
        by false m = sym (somewhere h.0 n (up h.0 h.1) false m)

    some_item : SomeRun steps s (λ q. MatchBool r (AnyItemGives q g f true) (IsTrue q.whole × AllItemsGive q g f false)) → r ≡ some n p
    some_item h = by r h.2
      where
        by : (r : Bool) → MatchBool r (AnyItemGives h.0 g f true) (IsTrue h.0.whole × AllItemsGive h.0 g f false) → r ≡ some n p
        by true m = sym (somewhere h.0 n (up h.0 h.1) true m)
        by false m = sym (nowhere h.0 n (up h.0 h.1) true m.0 m.1)

  -- `0..n` and `0..=n`
  module _ (s : Range ℕ) (r : Bool) (z : s.start ≡ 0) where
    pub all_below : SomeRun nat_range_steps s (λ q. MatchBool r (IsTrue q.whole × AllItemsGive q g f true) (AnyItemGives q g f false)) → r ≡ all s.end p
    all_below = every_item s s.end (below s z) r

    pub any_below : SomeRun nat_range_steps s (λ q. MatchBool r (AnyItemGives q g f true) (IsTrue q.whole × AllItemsGive q g f false)) → r ≡ some s.end p
    any_below = some_item s s.end (below s z) r

  module _ (s : RangeInclusive ℕ) (r : Bool) (z : range_inclusive_start s ≡ 0) (fresh : range_inclusive_exhausted s ≡ false) where
    pub all_through : SomeRun nat_range_inclusive_steps s (λ q. MatchBool r (IsTrue q.whole × AllItemsGive q g f true) (AnyItemGives q g f false)) → r ≡ all (range_inclusive_end s + 1) p
    all_through = every_item s (range_inclusive_end s + 1) (through s z fresh) r

    pub any_through : SomeRun nat_range_inclusive_steps s (λ q. MatchBool r (AnyItemGives q g f true) (IsTrue q.whole × AllItemsGive q g f false)) → r ≡ some (range_inclusive_end s + 1) p
    any_through = some_item s (range_inclusive_end s + 1) (through s z fresh) r
