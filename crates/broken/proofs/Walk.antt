-- Where the walk's loops end: the rows of an extent, the places of a row, are all passed.
--     row_done, along_done     the whole of a row, and of all rows
--     unlisted                 a limit that is no part of the verdict has no places
-- Assumes nothing.
use Prim.Native.Nat.{ℕ, ◌+◌, ◌/◌, ◌%◌, ◌≤◌}
use mathlib.Core.List.{List, []}
use mathlib.Core.Path.{◌≡◌}
use native.Mathlib.Omega.{arith}
use Rattle.plan.specs.declared.ways.Way.{Way}
use Rattle.plan.specs.declared.read.Bays.{Bays}
use Rattle.floor.specs.Refusal.{refusal}
use Rattle.lines.specs.declared.survey.Floor.{Floor}
use Rattle.limits.specs.declared.Limit.{Limit}
use Rattle.limits.specs.Meaning.{number}
use Rattle.limits.specs.Limits.{verdict}
use Rattle.limits.specs.Places.{limit_at, extent}
use Rattle.limits.proofs.Meaning.{broken}
use Rattle.broken.specs.declared.Place.{Place}
use Rattle.broken.specs.Listing.{gathered, one_place, row_places, places_along, limit_places, places_of}
use Rattle.broken.specs.Laid.{Listed}
use Rattle.broken.specs.Asked.{Judged}
use Rattle.broken.proofs.Tests.{extent_is}
use Rattle.broken.proofs.Laid.{listed_none}
use Rattle.broken.proofs.Members.{no_more, limit_holds}

-- a loop that has passed n numbers
passed : (g : ℕ → List Place) (k n : ℕ) {b m : ℕ} {t u : List ℕ} → k ≤ n → n ≤ k → Listed b (gathered k g) t m u → Listed b (gathered n g) t m u
passed g k n h l p = let e : k ≡ n = omega arith in rw e at p

module _ (o : Floor) (l : Limit) (d : Way) {e : Bays} (q : e ≡ extent l d o.slab.bays) where
  pub row_done : (i j : ℕ) {b m : ℕ} {t u : List ℕ} → i ≤ e.x → e.x ≤ i → Listed b (gathered i (one_place o.bytes.now l d j)) t m u
      → Listed b (row_places o.bytes.now l d j) t m u
  unfolding row_places
  row_done i j h k r = rw (← extent_is o l d q) (passed (one_place o.bytes.now l d j) i e.x h k r)

  pub along_done : (j : ℕ) {b m : ℕ} {t u : List ℕ} → j ≤ e.y → e.y ≤ j → Listed b (gathered j (row_places o.bytes.now l d)) t m u
      → Listed b (places_along o.bytes.now l d) t m u
  unfolding places_along
  along_done j h k r = rw (← extent_is o l d q) (passed (row_places o.bytes.now l d) j e.y h k r)

-- a limit that is no part of the verdict
pub unlisted : (f : List ℕ) {v : ℕ} → refusal f ≡ 0 → v ≡ verdict f → (l : Limit) → ¬ (v / number l % 2 ≡ 1) → limit_places f l ≡ []
unlisted f e q l n =
    no_more (limit_places f l) (λ p h.
    let (d, i, j, _, b) = limit_holds f e l h in n (rw q (((broken f e).parts l).1 (d, i, j, b))))

-- the turn of a limit that is listed, and of one that is not looked at
pub limit_turn : (f : List ℕ) {l k : Limit} {n r m : ℕ} {u w t : List ℕ} → l ≡ k → Listed n (limit_places f l) u r w × (r ≤ n + 338) → t ≡ w → m ≡ r
    → Listed n (limit_places f k) u m t × (m ≤ n + 338)
limit_turn f e q ew er = rw (← e, ew, er) q

pub skipped_turn : (o : Floor) {v x : ℕ} {l k : Limit} {n m : ℕ} {u t : List ℕ} → Judged o.bytes.now v → l ≡ k → x ≡ number l → ¬ (v / x % 2 ≡ 1)
    → t ≡ u → m ≡ n → Listed n (limit_places o.bytes.now k) u m t × (m ≤ n + 338)
skipped_turn o {k = k} {n} {u = u} p e ex out eu en =
    rw (eu, en, unlisted o.bytes.now o.accepted p.verdict k (λ h. out (rw (ex, e) h))) (listed_none n u, omega arith)

pub all_done : (f : List ℕ) (k : ℕ) {m : ℕ} {t u : List ℕ} → k ≤ 7 → 7 ≤ k → Listed 0 (gathered k (λ i. limit_places f (limit_at i))) t m u → Listed 0 (places_of f) t m u
unfolding places_of
all_done f k h l p = passed (λ i. limit_places f (limit_at i)) k 7 h l p
