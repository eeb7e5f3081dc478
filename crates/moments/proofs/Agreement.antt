-- A change keeps the governing slice in agreement with the table, over any lent table and slice: where the whole table is written every support is,
-- and else those beside the records written (crate supports, Kept).
-- Assumes nothing.
use Prim.Native.Nat.{ℕ, ◌<◌}
use mathlib.Core.Bool.{Bool, true, false, cond, ◌&&◌}
use mathlib.Core.List.{List}
use mathlib.Core.Path.{◌≡◌, sym, subst, ◌∙◌}
use Rattle.numbers.specs.Records.{every}
use Rattle.numbers.proofs.Written.{written_at}
use Rattle.plan.specs.declared.ways.Way.TheVariants.{X, Y}
use Rattle.plan.specs.declared.read.Bays.{Bays}
use Rattle.plan.specs.Plan.{bays_of, many}
use Rattle.changes.specs.Change.{change_kind, change_index, changed}
use Rattle.changes.specs.Meaning.{TakenChange}
use Rattle.changes.proofs.Kept.{many_kept}
use Rattle.floor.proofs.Fair.{fair}
use Rattle.limits.specs.Limits.{is_clear}
use Rattle.tables.specs.Width.{record_width}
use Rattle.tables.specs.Places.{record_count}
use Rattle.tables.specs.Named.{named_at}
use Rattle.supports.specs.Beside.{beside_at}
use Rattle.supports.specs.Meaning as supports
use Rattle.supports.proofs.Supports.{support_below, number_support}
use Rattle.supports.proofs.Governed.{governed_at}
use Rattle.supports.proofs.Besides.{says_beside_at}
use Rattle.supports.proofs.Same.{SameRecord}
use Rattle.supports.proofs.Kept.{agrees_after}
use Rattle.frames.specs.Table.{record_at, named_written}
use Rattle.moments.specs.Lent.{Lent}
use Rattle.moments.specs.Tables.{fresh, governing, Lodged}
use Rattle.moments.specs.Changing.{rewritten, regoverned, remade}
use Rattle.moments.specs.Meaning.{Agrees}
use Rattle.moments.proofs.Fresh.{record_full, same_bays}
use Rattle.moments.proofs.Governed.{SaysBeside}

-- ---- which supports a taken change writes

module _ (f c : List ℕ) (taken : TakenChange f c) where
  abbrev g : List ℕ
  g = changed f c

  pub listed : change_index c < many g (change_kind c)
  listed = rw (many_kept f c taken.held taken.fits (change_kind c)) taken.fits.index

  pub says_written : SaysBeside g (change_kind c) (change_index c)
  says_written p h =
      rw (number_support (bays_of g) h) at
      (says_beside_at g (change_kind c) (change_index c) listed (λ d. ((fair g taken.left).bays_in d).0) (support_below (bays_of g) h))

  bays_same : bays_of g ≡ bays_of f
  bays_same = rw (same_bays f c taken X, same_bays f c taken Y)

  module _ (l : Lent) (room : Lodged g l) (agree : Agrees f l) where
    abbrev named : List ℕ
    named = named_written g (change_kind c) (change_index c) l.table

    -- a record that is not named reads as before
    unnamed : (r : ℕ) → r < record_count g → named_at g (change_kind c) (change_index c) r ≡ false → SameRecord l.table named r
    unfolding named_written
    unnamed r h e n hn =
        sym (written_at record_width (named_at g (change_kind c) (change_index c)) (record_at g) (record_full g) (record_count g) l.table room.table r n h hn ∙ rw e)

    by_verdicts : (b : Bool)
        → let t = cond b named (fresh g l.table) in
        Agrees g (record { table = t; governing = governing g (cond b (beside_at (bays_of g) (change_kind c) (change_index c)) every) t l.governing })
    by_verdicts true =
        agrees_after g (change_kind c) (change_index c) listed (λ d. ((fair g taken.left).bays_in d).0) l.table named unnamed l.governing room.governing
        (subst (λ (b : Bays). supports.Agrees b l.table l.governing) (sym bays_same) agree)
    by_verdicts false = λ k n hk hn. governed_at (bays_of g) every (fresh g l.table) l.governing room.governing k n hk hn

    pub agrees_remade : Agrees g (remade f c l)
    unfolding rewritten regoverned
    agrees_remade = by_verdicts (is_clear f && is_clear g)
