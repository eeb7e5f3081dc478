-- The numbers of opening and of a change: given exactly when their statements say so, and what success says of the floor and of what is lent.
-- Assumes nothing.
use Prim.Native.Nat.{ℕ, ◌*◌}
use mathlib.Core.List.{List}
use mathlib.Core.Logic.{◌↔◌}
use mathlib.Core.Path.{◌≡◌, refl, sym}
use lib.ListN.{length}
use Rattle.numbers.proofs.Tests.{says_le}
use Rattle.numbers.specs.Chains.{tried, Holds, Sound}
use Rattle.numbers.specs.Chains.Sound.{done, ◌then◌}
use Rattle.numbers.proofs.Chains.{answers, success, both_zero, ◌before◌, stands, decides}
use Rattle.floor.specs.Refusal.{refusal, floor_checks}
use Rattle.floor.proofs.Meaning.{sound_floor}
use Rattle.changes.specs.Refusal.{change_checks, change_refusal}
use Rattle.changes.proofs.Given.{sound_change}
use Rattle.plan.specs.Plan.{bays_of}
use Rattle.tables.specs.Width.{record_width}
use Rattle.tables.specs.Places.{record_count}
use Rattle.supports.specs.Governing.{support_width, support_count}
use Rattle.moments.specs.Lent.{Lent}
use Rattle.moments.specs.Tables.{room_checks, Lodged, room_refusal}
use Rattle.moments.specs.Opening.{open_checks, open_refusal}
use Rattle.moments.specs.Changing.{changing_checks, change_number}
use Rattle.moments.specs.Meaning.{GivenOpening, GivenChanging}

sound_room : (f : List ℕ) (l : Lent) → Sound (room_checks f l)
unfolding room_checks
sound_room f l =
    says_le (record_count f * record_width) (length l.table) then (says_le (support_count (bays_of f) * support_width) (length l.governing) then done)

pub given_opening : (n : ℕ) (f : List ℕ) (l : Lent) → (open_refusal f l ≡ n) ↔ GivenOpening f l n
unfolding open_refusal open_checks
given_opening n f l = answers (sound_floor f before sound_room f l) n

pub given_changing : (n : ℕ) (f : List ℕ) (l : Lent) (c : List ℕ) → (change_number f l c ≡ n) ↔ GivenChanging f l c n
unfolding change_number changing_checks
given_changing n f l c = answers (sound_change f c before sound_room f l) n

-- ---- "success is 0"

room_of : (f : List ℕ) (l : Lent) → tried (room_checks f l) ≡ 0 → Lodged f l
unfolding room_checks Holds
room_of f l e = let h = (success (sound_room f l)).0 e in record { table = h.0; governing = h.1.0 }

room_is : (f : List ℕ) (l : Lent) → Lodged f l → tried (room_checks f l) ≡ 0
unfolding room_checks Holds
room_is f l h = (success (sound_room f l)).1 (h.table, (h.governing, tt))

pub open_parts : (f : List ℕ) (l : Lent) → open_refusal f l ≡ 0 → (refusal f ≡ 0) × Lodged f l
unfolding open_refusal open_checks refusal
open_parts f l e = let h = both_zero (sound_floor f) _ e in (h.0, room_of f l h.1)

pub open_whole : (f : List ℕ) (l : Lent) → refusal f ≡ 0 → Lodged f l → open_refusal f l ≡ 0
unfolding open_refusal open_checks refusal
open_whole f l e h = sym (decides (sound_floor f) (room_checks f l) (sym e) refl (sym (room_is f l h)))

pub change_parts : (f : List ℕ) (l : Lent) (c : List ℕ) → change_number f l c ≡ 0 → (change_refusal f c ≡ 0) × Lodged f l
unfolding change_number changing_checks change_refusal
change_parts f l c e = let h = both_zero (sound_change f c) _ e in (h.0, room_of f l h.1)

pub change_whole : (f : List ℕ) (l : Lent) (c : List ℕ) → change_refusal f c ≡ 0 → Lodged f l → change_number f l c ≡ 0
unfolding change_number changing_checks change_refusal
change_whole f l c e h = sym (decides (sound_change f c) (room_checks f l) (sym e) refl (sym (room_is f l h)))

-- ---- a number that was given stands, and else the room decides

pub opening_stands : (f : List ℕ) (l : Lent) {n : ℕ} → n ≡ refusal f → ¬ (n ≡ 0) → n ≡ open_refusal f l
unfolding open_refusal open_checks refusal
opening_stands f l = stands (floor_checks f) (room_checks f l)

pub opening_decides : (f : List ℕ) (l : Lent) {n : ℕ} → 0 ≡ refusal f → n ≡ room_refusal f l → n ≡ open_refusal f l
unfolding open_refusal open_checks refusal room_refusal
opening_decides f l e = decides (sound_floor f) (room_checks f l) e refl

pub changing_stands : (f c : List ℕ) (l : Lent) {n : ℕ} → n ≡ change_refusal f c → ¬ (n ≡ 0) → n ≡ change_number f l c
unfolding change_number changing_checks change_refusal
changing_stands f c l = stands (change_checks f c) (room_checks f l)

pub changing_decides : (f c : List ℕ) (l : Lent) {n : ℕ} → 0 ≡ change_refusal f c → n ≡ room_refusal f l → n ≡ change_number f l c
unfolding change_number changing_checks change_refusal room_refusal
changing_decides f c l e = decides (sound_change f c) (room_checks f l) e refl
