-- "The floor file", the table by kind: how many records of each, where they start, which fields are listed, which kinds can be changed.
-- Assumes nothing.
use Rattle.std.specs.Prelude.{ℕ, zero, suc, ◌+◌, ◌*◌, Bool, true, false, cond, ◌&&◌, eqb}

-- the kinds by name; 5 to 8 are those of a direction (crate plan)
abbrev pub size_kind : ℕ
size_kind = 1

abbrev pub material_kind : ℕ
material_kind = 2

abbrev pub load_kind : ℕ
load_kind = 3

abbrev pub column_kind : ℕ
column_kind = 4

abbrev pub offset_kind : ℕ
offset_kind = 9

-- of nine things, the one of kind k, 1 to 9; for any other number `other`
abbrev pub by_kind {ℓ} : {A : Type ℓ} → ℕ → A → A → A → A → A → A → A → A → A → A → A
by_kind k sizes materials loads columns xspan yspan xbeam ybeam offset other =
    cond (eqb k 1) sizes (cond (eqb k 2) materials (cond (eqb k 3) loads (cond (eqb k 4) columns (cond (eqb k 5) xspan
    (cond (eqb k 6) yspan (cond (eqb k 7) xbeam (cond (eqb k 8) ybeam (cond (eqb k 9) offset other))))))))

-- the table's second column: how many records of kind k a floor of nx by ny bays has
unfoldable pub count_of : ℕ → ℕ → ℕ → ℕ
count_of nx ny k = by_kind k 1 1 1 1 nx ny (ny + 1) (nx + 1) ((nx + 1) * (ny + 1)) 0

-- "exactly this order": the records of kind k stand after those of the kinds before it
unfoldable pub start_of : ℕ → ℕ → ℕ → ℕ
start_of nx ny zero = 0
start_of nx ny (suc k) = start_of nx ny k + count_of nx ny k

-- all the records that nx and ny ask for
unfoldable pub total : ℕ → ℕ → ℕ
total nx ny = start_of nx ny 10

-- "a field not listed is zero": kinds 1 and 4 list a, b, c; kinds 5 and 6 list a alone; the others a and b
unfoldable pub unlisted_zero : ℕ → ℕ → ℕ → Bool
unlisted_zero k b c =
    by_kind k true (eqb c 0) (eqb c 0) true
    (eqb b 0 && eqb c 0) (eqb b 0 && eqb c 0) (eqb c 0) (eqb c 0) (eqb c 0) false

-- refusal 9: a change is of kind 3 or 5..9
unfoldable pub changeable : ℕ → Bool
changeable k = by_kind k false false true false true true true true true false
