-- A change: one record of 16 bytes, put in its place.
-- Assumes nothing.
use Rattle.std.specs.Prelude.{ℕ, ◌+◌, Bool, ◌&&◌, List, eqb, ltb, length}
use Rattle.std.proofs.Math.Seq.{paste}
use Rattle.numbers.specs.Records.{put}
use Rattle.records.specs.Kinds.{count_of, start_of, changeable, unlisted_zero}
use Rattle.plan.specs.declared.read.Bays.{Bays}
use Rattle.plan.specs.Fields.{part_b, part_c, kind_at, index_at, part_at}
use Rattle.plan.specs.Plan.{bays_of}

-- kind and index of the one record that a change is
abbrev pub change_kind : List ℕ → ℕ
change_kind c = kind_at c 0

abbrev pub change_index : List ℕ → ℕ
change_index c = index_at c 0

-- "of kind 3 or 5..9", and not "an index the floor lacks": the bays decide what a floor has
abbrev pub has_record : Bays → ℕ → ℕ → Bool
has_record b k i = changeable k && ltb i (count_of b.x b.y k)

-- 9: the change is 16 bytes, of such a kind and index, and every unlisted field is zero
unfoldable pub change_ok : Bays → List ℕ → Bool
change_ok b c =
    eqb (length c) 16 && (has_record b (change_kind c) (change_index c) && unlisted_zero (change_kind c) (part_at c 0 part_b) (part_at c 0 part_c))

-- the record that it replaces
abbrev pub change_place : Bays → List ℕ → ℕ
change_place b c = start_of b.x b.y (change_kind c) + change_index c

-- the floor with the change put in its place
unfoldable pub changed : List ℕ → List ℕ → List ℕ
changed f c = put 16 (change_place (bays_of f) c) c f

-- the bytes of s stored in d from `at` on
unfoldable pub stored : List ℕ → ℕ → List ℕ → List ℕ
stored d at s = paste d at s (length s)
