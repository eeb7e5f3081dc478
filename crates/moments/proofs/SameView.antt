-- A span that a change does not name has the same view before and after: each number of the view is read from a record that is not the
-- changed one, clause by clause of 01's list.
-- Assumes nothing.
use Prim.Native.Nat.{ℕ, ◌+◌, ◌-◌, ◌/◌, ◌%◌, ◌≤◌}
use mathlib.Core.Bool.{true, cond, ◌||◌}
use mathlib.Core.List.{List}
use mathlib.Core.Logic.{inl, inr, ⊎_elim}
use mathlib.Core.Path.{◌≡◌, refl, sym, ap, ◌∙◌}
use native.Mathlib.Decide.{ℕ_discrete}
use native.Mathlib.Omega.{arith}
use lib.Dec.{eqb}
use Rattle.numbers.proofs.Tests.{says_eq, by_test}
use Rattle.plan.specs.declared.ways.Way.{Way}
use Rattle.plan.specs.declared.ways.Way.TheVariants.{X, Y}
use Rattle.plan.specs.declared.ways.End.{End}
use Rattle.plan.specs.declared.ways.End.TheVariants.{Low, High}
use Rattle.plan.specs.Ways.{across, span_kind, line_kind, side_unit}
use Rattle.plan.specs.Plan.{bays, value, column, side, beam_width, beam_depth, bays_of}
use Rattle.layouts.specs.Layouts.{layout_of}
use Rattle.changes.specs.Change.{change_kind, change_index, changed}
use Rattle.changes.specs.Meaning.{TakenChange}
use Rattle.changes.proofs.Kept.{Other, bays_kept, kept}
use Rattle.lines.specs.Lines.{below}
use Rattle.lines.specs.Slabs.{slab_of}
use Rattle.spans.specs.Views.{line_view, end_line, outer_end, inner_end, low_end, high_end, view_of}
use Rattle.tables.specs.Places.{Place}
use Rattle.tables.specs.Meaning.{Names}
use Rattle.tables.specs.Meaning.Names.{loads, own_span, beside, own_line, first_span, last_span}
use Rattle.frames.specs.Table.{view_in}
use Rattle.moments.proofs.SameLayout.{same_layout}

-- of two numbers that a test picks between, the second is asked for only where the test fails
pick_else : {A : Type 0} (l n : ℕ) (x : A) {y z : A} → ((l ≡ n → ⊥) → y ≡ z) → cond (eqb l n) x y ≡ cond (eqb l n) x z
pick_else l n x {y} {z} h = by_test (λ w. w ≡ cond (eqb l n) x z) (says_eq l n) (λ e. by_test (λ w. x ≡ w) (says_eq l n) (λ _. refl) (λ ne. absurd (ne e))) (λ ne. by_test (λ w. y ≡ w) (says_eq l n) (λ e. absurd (ne e)) (λ _. h ne))

pick_then : {A : Type 0} (l n : ℕ) (x : A) {y z : A} → (l ≡ n → y ≡ z) → cond (eqb l n) y x ≡ cond (eqb l n) z x
pick_then l n x {y} {z} h = by_test (λ w. w ≡ cond (eqb l n) z x) (says_eq l n) (λ e. by_test (λ w. y ≡ w) (says_eq l n) (λ _. h e) (λ ne. absurd (ne e))) (λ ne. by_test (λ w. x ≡ w) (says_eq l n) (λ e. absurd (ne e)) (λ _. refl))

last_line : (f : List ℕ) (d : Way) → end_line (bays_of f) d High ≡ bays f d
last_line f X = refl
last_line f Y = refl

module _ (f c : List ℕ) (t : TakenChange f c) where
  abbrev g : List ℕ
  g = changed f c

  stays : (k i part : ℕ) → part ≤ 3 → Other c k i → value g k i part ≡ value f k i part
  stays = kept f c t.held t.fits

  same_bays : (d : Way) → bays g d ≡ bays f d
  same_bays = bays_kept f c t.held t.fits

  -- sizes, materials and columns are of no kind that a change may have
  fixed : (k part : ℕ) → part ≤ 3 → (k ≡ 3 → ⊥) → k ≤ 4 → value g k 0 part ≡ value f k 0 part
  fixed k part h ne most = stays k 0 part h (λ q z. ⊎_elim (λ e. ne (omega arith)) (λ r. omega arith) t.fits.kind)

  same_column : (d : Way) → column g d ≡ column f d
  same_column X = fixed 4 1 (omega arith) (λ q. omega arith) (omega arith)
  same_column Y = fixed 4 2 (omega arith) (λ q. omega arith) (omega arith)

  same_side : (d : Way) (e : End) → side g d e ≡ side f d e
  same_side d e = ap (λ n. n / side_unit d e % 4) (fixed 4 3 (omega arith) (λ q. omega arith) (omega arith))

  same_beam : (d : Way) (l : ℕ) → Other c (line_kind d) l → (beam_width g d l ≡ beam_width f d l) × (beam_depth g d l ≡ beam_depth f d l)
  same_beam d l ne = (stays (line_kind d) l 1 (omega arith) ne, stays (line_kind d) l 2 (omega arith) ne)

  module _ (wide : (d : Way) → 3 ≤ bays f d) where
    -- a beam changed in one direction leaves the lines of the other to tell the layout
    layout_by : (d : Way) → (line_kind d ≡ change_kind c → ⊥) → layout_of g ≡ layout_of f
    layout_by d ne =
        same_layout d g f (rw (same_bays (across d)) (omega (arith, wide (across d)))) (omega (arith, wide (across d)))
        (same_beam d 0 (λ q _. ne q)).0 (same_beam d 1 (λ q _. ne q)).0 t.left t.held

    pub layout_kept : layout_of g ≡ layout_of f
    layout_kept =
        elim (ℕ_discrete 7 (change_kind c)) [
          | yes q ↦ layout_by Y (λ z. omega arith)
          | no ne ↦ layout_by X ne
        ]

    module _ (p : Place) (no : Names f (change_kind c) (change_index c) p → ⊥) where
      abbrev d : Way
      d = p.way

      abbrev l : ℕ
      l = p.line

      abbrev s : ℕ
      s = p.span

      same_slab : slab_of g ≡ slab_of f
      unfolding slab_of
      same_slab =
          λ i. record {
            layout = layout_kept i;
            bays = record { x = same_bays X i; y = same_bays Y i };
            t = fixed 1 3 (omega arith) (λ q. omega arith) (omega arith) i;
            fy = fixed 2 2 (omega arith) (λ q. omega arith) (omega arith) i;
            cx = same_column X i;
            cy = same_column Y i;
            dead = stays 3 0 1 (omega arith) (λ q _. no (loads (sym q))) i;
            live = stays 3 0 2 (omega arith) (λ q _. no (loads (sym q))) i;
          }

      same_line : line_view g d l ≡ line_view f d l
      unfolding line_view below
      same_line =
          λ i. record {
            outer = eqb l 0 || eqb l (same_bays (across d) i);
            below = pick_else l 0 0 (λ ne. stays (span_kind (across d)) (l - 1) 1 (omega arith) (λ q z. no (beside (sym q) (inr (omega (arith, ne)))))) i;
            above = stays (span_kind (across d)) l 1 (omega arith) (λ q z. no (beside (sym q) (inl z))) i;
            along = same_column d i;
            across = same_column (across d) i;
            width = (same_beam d l (λ q z. no (own_line (sym q) z))).0 i;
            depth = (same_beam d l (λ q z. no (own_line (sym q) z))).1 i;
          }

      same_end : (e : End) (m : ℕ) → end_line (bays_of f) d e ≡ m → end_line (bays_of g) d e ≡ m → Other c (line_kind (across d)) m → outer_end g d e ≡ outer_end f d e
      unfolding outer_end
      same_end e m a b ne =
          rw (a, b) (λ i. record { outer = true; code = same_side d e i; width = (same_beam (across d) m ne).0 i; depth = (same_beam (across d) m ne).1 i })

      same_low : low_end g d s ≡ low_end f d s
      unfolding low_end
      same_low = pick_then s 0 inner_end (λ z. same_end Low 0 refl refl (λ q e. no (first_span (sym q) (sym e) z)))

      same_high : high_end g d s ≡ high_end f d s
      unfolding high_end
      same_high =
          rw (same_bays d)
          (pick_then (s + 1) (bays f d) inner_end (λ z. same_end High (bays f d) (last_line f d) (last_line g d ∙ same_bays d) (λ q e. no (last_span (sym q) (sym e) z))))

      -- the law that makes "every other keeps what it held" right
      pub same_view : view_in g p ≡ view_in f p
      unfolding view_of
      same_view =
          λ i. record {
            slab = same_slab i;
            line = same_line i;
            l1 = stays (span_kind d) s 1 (omega arith) (λ q z. no (own_span (sym q) z)) i;
            low = same_low i;
            high = same_high i;
          }
