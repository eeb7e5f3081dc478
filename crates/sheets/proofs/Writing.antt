-- Texts written one after the other are one text written (wrote_then); a promise `Wrote` leaves no second answer, buffer or text.
-- Assumes nothing.
use mathlib.Core.Path.{◌≡◌, refl, sym, ap, subst, ◌∙◌}
use mathlib.Core.List.{List, [], ◌∷◌, ◌++◌, append_assoc, append-nil}
use Prim.Native.Nat.{ℕ, suc, ◌+◌, ◌≤◌, ◌<◌}
use native.Mathlib.Numerals.{add-one}
use native.Mathlib.Omega.{arith}
use lib.ListN.{length, take, drop, set, length-append, length-set, length-take, take-append-drop}
use lib.Seq.{take_at, drop_at, take-length, length-take-le, set_split, append_snoc, drop-drop, drop-append-le}
use Rattle.io.specs.Counts.{IsPrefixLen}
use Rattle.io.proofs.Counting.{prefix_len_of_le}
use Rattle.sheets.specs.Wrote.{Wrote}

-- a buffer as it is
pub wrote_none : (old : List ℕ) (at : ℕ) → Wrote old at [] old at
wrote_none old at = record {
  ends = omega arith;
  whole = sym (ap (λ (l : List ℕ). l ++ drop at old) (append-nil (take at old)) ∙ take-append-drop at old);
  same_length = refl;
}

-- one byte stored
pub wrote_byte : (old : List ℕ) (at b : ℕ) → at < length old → Wrote old at (b ∷ []) (set old at b) (at + 1)
wrote_byte old at b h = record {
  ends = refl;
  whole = rw (add-one at) (set_split old at b h ∙ sym (append_snoc (take at old) b (drop (suc at) old)));
  same_length = simp length-set;
}

module _ {old text new : List ℕ} {at r : ℕ} (h : at ≤ length old) (w : Wrote old at text new r) where
  front : length (take at old ++ text) ≡ r
  front = omega (arith, w.ends, length-append (take at old) text, length-take-le at old h)

  -- the bytes before r, and those from r on
  before : take r new ≡ take at old ++ text
  before = ap (take r) w.whole ∙ take_at (take at old ++ text) (drop r old) r front

  pub wrote_past : drop r new ≡ drop r old
  wrote_past = ap (drop r) w.whole ∙ drop_at (take at old ++ text) (drop r old) r front

  -- the text ends within the buffer, so `&out[..r]` can be lent
  pub wrote_counts : IsPrefixLen r new
  wrote_counts = prefix_len_of_le r new (omega (arith, front, length-take r new, ap length before))

  -- and it is what lies from `at` to r
  pub wrote_there : drop at (take r new) ≡ text
  wrote_there = ap (drop at) before ∙ drop_at (take at old) text at (length-take-le at old h)

-- one text after the other
pub wrote_then : {old mid new text more : List ℕ} {at m r : ℕ} → at ≤ length old → Wrote old at text mid m → Wrote mid m more new r
    → Wrote old at (text ++ more) new r
wrote_then {old} {mid} {new} {text} {more} {at} {m} {r} h w v =
    let past : drop r mid ≡ drop r old =
    rw (v.ends, ← drop-drop (length more) m mid, ← drop-drop (length more) m old, wrote_past h w) in
    record {
      ends = omega (arith, w.ends, v.ends, length-append text more);
      whole = v.whole ∙ rw (before h w, past, append_assoc (take at old) text more);
      same_length = v.same_length ∙ w.same_length;
    }

-- the same text by another name
pub wrote_as : {old text text' new : List ℕ} {at r : ℕ} → text ≡ text' → Wrote old at text new r → Wrote old at text' new r
wrote_as {old} {text} {text'} {new} {at} {r} e w = subst (λ (l : List ℕ). Wrote old at l new r) e w

-- the byte b, written, is the byte that the text has
pub wrote_mark : {old new : List ℕ} {at b r : ℕ} (b' : ℕ) → Wrote old at (b ∷ []) new r → b ≡ b' → Wrote old at (b' ∷ []) new r
wrote_mark b' w e = wrote_as (ap (λ (n : ℕ). n ∷ []) e) w

-- src, which is the text, copied to `at`; `mid` was the buffer from `at` to `post`, and `part` is what the copy leaves of it
pub wrote_copy : (old src text mid part post : List ℕ) (at k : ℕ) → at ≤ length old → k ≡ length src → src ≡ text → length src ≤ length mid
    → mid ++ post ≡ drop at old → part ≡ take (length src) src ++ drop (length src) mid → length (take at old ++ (part ++ post)) ≡ length old
    → Wrote old at text (take at old ++ (part ++ post)) (at + k)
wrote_copy old src text mid part post at k h e same room there copied kept =
    let past : drop (length src) mid ++ post ≡ drop (at + k) old =
    sym (drop-append-le (length src) mid post room) ∙ ap (drop (length src)) there ∙ drop-drop (length src) at old ∙ rw e in
    record {
      ends = ap (λ (n : ℕ). at + n) (e ∙ ap length same);
      whole = rw (copied, take-length src, append_assoc src (drop (length src) mid) post, past, same, append_assoc (take at old) text (drop (at + k) old));
      same_length = kept;
    }

-- no second answer, and no second buffer
pub wrote_one : {old text new new' : List ℕ} {at r r' : ℕ} → Wrote old at text new r → Wrote old at text new' r' → (r ≡ r') × (new ≡ new')
wrote_one {old} {text} {at = at} w v =
    let e = w.ends ∙ sym v.ends in (e, w.whole ∙ ap (λ (n : ℕ). take at old ++ text ++ drop n old) e ∙ sym v.whole)

-- no second text
pub wrote_text : {old text text' new : List ℕ} {at r : ℕ} → at ≤ length old → Wrote old at text new r → Wrote old at text' new r → text ≡ text'
wrote_text h w v = sym (wrote_there h w) ∙ wrote_there h v
