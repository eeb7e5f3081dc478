-- What a span's formulas ask, and what they come to keep: each range is that of its formula, in the ranges of what it is worked out of.
--     loaded, stiffened, proportioned    of a span, where its line's numbers are at hand
--     worked                             what its own numbers keep
--     work_is                            what is worked out of a span, formula by formula, are its numbers
-- Assumes nothing.
use Prim.Native.Nat.{ℕ, ◌≤◌}
use mathlib.Core.Path.{◌≡◌, refl, sym, subst}
use Rattle.stiffness.proofs.Widths.{transverse_in, frame_in, strip_most}
use Rattle.stiffness.proofs.Stiffness.{alpha_most}
use Rattle.strips.specs.Moments.{clear_length, static_moment}
use Rattle.strips.specs.Asked.{Loaded, Stiffened, Proportioned}
use Rattle.strips.specs.Ratios.{stiffness_ratio, span_ratio}
use Rattle.strips.proofs.Moments.{clear_most, moment_most}
use Rattle.strips.proofs.Ratios.{stiffness_most, ratio_in}
use Rattle.spans.specs.declared.view.View.{View}
use Rattle.spans.specs.declared.work.LineWork.{LineWork}
use Rattle.spans.specs.declared.work.SpanWork.{SpanWork}
use Rattle.spans.specs.Works.{alpha_of, strip_of, line_work, span_work}
use Rattle.spans.specs.Asked.{Workable, WorkableSpan, Worked}

module _ {v : View} {w : LineWork} (h : WorkableSpan v w) where
  pub loaded : {ln : ℕ} → ln ≤ 12000 → Loaded v.slab.dead v.slab.live w.width ln
  unfolding line_work
  loaded clear =
      record {
        dead = h.view.dead;
        live = h.view.live;
        width = rw h.line (frame_in _ h.view.line.spans).most;
        clear = clear;
      }

  pub stiffened : Stiffened w.alpha w.l2 v.l1
  unfolding line_work
  stiffened =
      record {
        stiffness = rw h.line (alpha_most _ h.view.line.beam (frame_in _ h.view.line.spans));
        across = rw h.line (transverse_in _ h.view.line.spans.spans).1;
        along = h.view.least;
      }

  pub proportioned : Proportioned w.l2 v.l1
  unfolding line_work
  proportioned =
      record {
        across = stiffened.across;
        along = h.view.least;
        wide = rw h.line h.view.wide;
        long = rw h.line h.view.long;
      }

module _ {v : View} (h : Workable v) where
  abbrev on_line : WorkableSpan v (line_work v.line (alpha_of v.line v.slab.t))
  on_line = record { view = h; line = refl }

  pub worked : Worked (span_work v)
  unfolding span_work line_work
  worked =
      let across = transverse_in v.line.outer h.line.spans.spans in
      record {
        moment = moment_most (loaded on_line (clear_most h.spanned));
        stiffness = stiffness_most _ _ _;
        ratio_least = (ratio_in (proportioned on_line)).0;
        ratio_most = (ratio_in (proportioned on_line)).1;
        strip = strip_most _ _ _ _ _;
        width = frame_in _ h.line.spans;
        across_least = across.0;
        across_most = across.1;
        slab_least = h.line.beam.slab_least;
        slab_most = h.line.beam.slab_most;
      }

-- of a span, with Mo, A, R and wc
abbrev pub work_of : View → LineWork → ℕ → ℕ → ℕ → ℕ → SpanWork
work_of v w moment a r strip =
    record {
      moment = moment;
      a = a;
      r = r;
      strip = strip;
      width = w.width;
      l2 = w.l2;
      t = v.slab.t;
    }

pub work_is : {v : View} {w : LineWork} {ln moment a r strip : ℕ} → WorkableSpan v w
    → ln ≡ clear_length v.l1 v.line.along → moment ≡ static_moment v.slab.dead v.slab.live w.width ln
    → a ≡ stiffness_ratio w.alpha w.l2 v.l1 → r ≡ span_ratio w.l2 v.l1 → strip ≡ strip_of v
    → (work_of v w moment a r strip ≡ span_work v) × Worked (work_of v w moment a r strip)
unfolding span_work line_work
work_is {v} {w} {moment = moment} {a} {r} {strip} h el em ea er es =
    let e : work_of v w moment a r strip ≡ span_work v = cc h.line in
    (e, subst Worked (sym e) (worked h.view))
