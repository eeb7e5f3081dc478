-- A change that fits an accepted floor has its place inside it: the place is below the record count (Places.inside), which the length of an
-- accepted floor is. So the record stored there, in the floor or in a copy, makes the changed floor.
-- Assumes nothing.
use Prim.Native.Nat.{ℕ, ◌+◌, ◌*◌, ◌<◌, ◌≤◌}
use mathlib.Core.Logic.{⊎_elim}
use mathlib.Core.List.{List}
use mathlib.Core.Path.{◌≡◌, refl, ◌∙◌}
use native.Mathlib.Omega.{arith}
use lib.ListN.{length, take}
use Rattle.numbers.specs.Records.{put}
use Rattle.records.specs.Kinds.{total}
use Rattle.records.proofs.Places.{inside, count_most}
use Rattle.plan.specs.declared.ways.Way.TheVariants.{X, Y}
use Rattle.plan.specs.declared.read.Bays.{Bays}
use Rattle.plan.specs.Asked.{Sized}
use Rattle.plan.specs.Plan.{bays, bays_of}
use Rattle.plan.proofs.Reading.{bays_most}
use Rattle.floor.specs.Refusal.{refusal}
use Rattle.floor.proofs.Fair.{fair}
use Rattle.changes.specs.Asked.{Indexed, Placed}
use Rattle.changes.specs.Change.{change_kind, change_index, change_place, changed, stored}
use Rattle.changes.specs.Meaning.{Fitting}
use Rattle.changes.proofs.Copy.{length_record, stored_put, copied}

pub changed_is : (f c : List ℕ) → changed f c ≡ put 16 (change_place (bays_of f) c) c f
unfolding changed
changed_is f c = refl

module _ (f c : List ℕ) (fit : Fitting f c) where
  kind_most : change_kind c ≤ 9
  kind_most = ⊎_elim (λ e. omega arith) (λ r. omega arith) fit.kind

  -- for code that has the bays at hand
  pub indexed : {b : Bays} → Sized f b → Indexed b c
  indexed h =
      record {
        x = h.x_most;
        y = h.y_most;
        kind = kind_most;
        index = omega (arith, fit.index, count_most (bays f X) (bays f Y) (record { x = bays_most f X; y = bays_most f Y }) (change_kind c));
      }

  place_inside : change_place (bays_of f) c < total (bays f X) (bays f Y)
  place_inside = inside (bays f X) (bays f Y) (change_kind c) (change_index c) fit.index

module _ (f c : List ℕ) (held : refusal f ≡ 0) (fit : Fitting f c) where
  pub place_room : change_place (bays_of f) c * 16 + 16 ≤ length f
  place_room = omega (arith, (fair f held).whole, place_inside f c fit)

  pub length_changed : length (changed f c) ≡ length f
  length_changed = rw (changed_is f c) (length_record f (change_place (bays_of f) c) c place_room fit.full)

  pub placed : {b : Bays} {q : ℕ} → Sized f b → q ≡ change_place b c → Placed f q c
  placed h e = record { held = held; fits = fit; is = e ∙ rw h.is }

module _ {f : List ℕ} {q : ℕ} {c : List ℕ} (p : Placed f q c) where
  pub room : q * 16 + 16 ≤ length f
  room = rw p.is (place_room f c p.held p.fits)

  pub short : length f ≤ 3568
  short = (fair f p.held).short

  put_changed : put 16 q c f ≡ changed f c
  put_changed = rw (p.is, changed_is f c)

  pub stored_changed : {g : List ℕ} → g ≡ stored f (q * 16) c → g ≡ changed f c
  stored_changed e = e ∙ stored_put f q c p.fits.full ∙ put_changed

  pub copied_changed : (z l₁ l₂ : List ℕ) → l₁ ≡ stored z 0 f → l₂ ≡ stored l₁ (q * 16) c → take (length f) l₂ ≡ changed f c
  copied_changed z l₁ l₂ e₁ e₂ = copied f q c room p.fits.full z l₁ l₂ e₁ e₂ ∙ put_changed
