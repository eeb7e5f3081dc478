-- The supports that a change writes are those that adjoin a named span: a stretch of spans has one support more than spans, from the start
-- of its first to the end of its last.
-- Assumes nothing.
use Prim.Native.Nat.{ℕ, ◌+◌, ◌-◌, ◌≤◌, ◌<◌}
use mathlib.Core.Bool.{true}
use mathlib.Core.List.{List}
use mathlib.Core.Logic.{inl, inr, ⊎_elim}
use mathlib.Core.Path.{◌≡◌, refl, sym}
use native.Mathlib.Decide.{dec_lt}
use native.Mathlib.Omega.{arith}
use borrow.Author.Tests.{lt-ltb, le-leb}
use Rattle.numbers.specs.Tests.{Says}
use Rattle.numbers.proofs.Tests.{says_and3, says_lt, says_le, says_as}
use Rattle.plan.specs.declared.ways.Way.{Way}
use Rattle.plan.specs.declared.ways.Way.TheVariants.{X, Y}
use Rattle.plan.specs.declared.read.Bays.{Bays}
use Rattle.plan.specs.Ways.{span_kind}
use Rattle.plan.specs.Plan.{bays, last_line, bays_of, many}
use Rattle.tables.specs.Places.{Place, Inside}
use Rattle.tables.specs.declared.named.Spans.{Spans}
use Rattle.tables.specs.Named.{named_spans}
use Rattle.tables.proofs.Naming.{at_loads}
use Rattle.tables.proofs.Meaning.{Of, says_among, span_there, to_most, says_named}
use Rattle.supports.specs.Governing.{spans_of, last_of, support_count, support_place}
use Rattle.supports.specs.Beside.{beside_some, beside_named, beside_at}
use Rattle.supports.specs.Meaning.{Adjoins, span_of, Beside}
use Rattle.supports.proofs.Supports.{support_inside}

-- ---- a stretch of spans

-- one of these adjoins support n
abbrev Next : Spans → ℕ → Type 0
Next r n = (s : ℕ) × (Of r s × Adjoins s n)

says_next : (r : Spans) (n : ℕ) → Says (beside_some r n) (Next r n)
says_next r n = says_as to from (says_and3 (says_lt r.from r.to) (says_le r.from n) (says_le n r.to))
  where
    to : (r.from < r.to) × (r.from ≤ n) × (n ≤ r.to) → Next r n
    to h =
        elim (dec_lt n r.to) [
          | yes l ↦ (n, ((h.1, l), inl refl))
          | no l ↦ (r.to - 1, ((omega (arith, h.0), omega (arith, h.0)), inr (omega (arith, h.0, h.2))))
        ]

    from : Next r n → (r.from < r.to) × (r.from ≤ n) × (n ≤ r.to)
    from q =
        let o = q.1.0 in
        let near : (q.0 ≤ n) × (n ≤ q.0 + 1) = ⊎_elim (λ e. (omega arith, omega arith)) (λ e. (omega arith, omega arith)) q.1.1 in
        (omega (arith, o.0, o.1), omega (arith, o.0, near.0), omega (arith, o.1, near.1))

-- ---- the supports of a floor

module _ (f : List ℕ) where
  pub spans_are : (d : Way) → spans_of (bays_of f) d ≡ bays f d
  spans_are X = refl
  spans_are Y = refl

  pub last_are : (d : Way) → last_of (bays_of f) d ≡ last_line f d
  last_are X = refl
  last_are Y = refl

  -- a record of a span that the floor has is of one of its spans: what `Supporting` asks
  pub there_of : {kind index : ℕ} → index < many f kind → (d : Way) → kind ≡ span_kind d → index < spans_of (bays_of f) d
  there_of {kind} {index} h d e = rw (spans_are d) (span_there f kind index h d e)

  module _ (kind index : ℕ) (listed : index < many f kind) where
    module _ (p : Place) (some : 1 ≤ bays f p.way) (line : p.line ≤ last_line f p.way) where
      abbrev r : Spans
      r = named_spans kind index p.way p.line (bays f p.way)

      inside : (s : ℕ) → s < bays f p.way → Inside f (span_of p s)
      inside s h = record { line = line; span = h }

      to : Next r p.span → Beside f kind index p
      to q =
          let s = q.0 in
          let h : s < bays f p.way = omega (arith, q.1.0.1, to_most f kind index p.way p.line listed some) in
          (s, h, (q.1.1, (says_named f kind index (inside s h)).holds ((says_among r s).passes q.1.0)))

      from : Beside f kind index p → Next r p.span
      from q = (q.0, ((says_among r q.0).holds ((says_named f kind index (inside q.0 q.1)).passes q.2.1), q.2.0))

      pub says_beside : Says (beside_named (bays_of f) kind index p) (Beside f kind index p)
      says_beside = rw (spans_are p.way) (says_as to from (says_next r p.span))

    -- the same of a support by its number
    pub says_beside_at : ((d : Way) → 1 ≤ bays f d) → {k : ℕ} → k < support_count (bays_of f)
        → Says (beside_at (bays_of f) kind index k) (Beside f kind index (support_place (bays_of f) k))
    unfolding beside_at
    says_beside_at some {k} h =
        let p = support_place (bays_of f) k in
        says_beside p (some p.way) (rw (sym (last_are p.way)) (support_inside (bays_of f) h).line)

-- "Kind 3: all", and so every support
pub all_beside : (b : Bays) (index : ℕ) {k : ℕ} → ((d : Way) → 1 ≤ spans_of b d) → k < support_count b → beside_at b 3 index k ≡ true
unfolding beside_at
all_beside b index {k} some h =
    let p = support_place b k in
    let n = spans_of b p.way in
    rw (
      at_loads 3 index p.line n p.way refl,
      lt-ltb 0 n (omega (arith, some p.way)),
      le-leb 0 p.span (omega arith),
      le-leb p.span n (omega (arith, (support_inside b h).span)),
    )
