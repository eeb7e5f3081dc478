-- Each step's own answer, where it stops; what is not asked then is not needed (Verdict).
-- Assumes nothing.
use mathlib.Core.List.{List}
use mathlib.Core.Path.{◌≡◌, sym, ap, ◌∙◌}
use Prim.Native.Nat.{ℕ}
use Rattle.lines.specs.declared.survey.Floor.{Floor}
use Rattle.lines.specs.declared.survey.Survey.{Survey}
use Rattle.lines.specs.Slabs.{slab_of}
use Rattle.clear.proofs.Verdict.{by_floor, first_at, by_first, by_lines, by_panels}
use Rattle.clear.proofs.is_clear.Goals as goal

-- the survey is of the floor that was read, so that its bytes are this floor's, and its slab is at hand
same : (s : Survey) {l : Floor} {f : List ℕ} → s.floor ≡ l → l.bytes.now ≡ f → s.floor.bytes.now ≡ f
same s e is = ap (λ (l : Floor). l.bytes.now) e ∙ is

at_hand : (l : Floor) (s : Survey) → s.floor ≡ l → l.slab ≡ slab_of s.floor.bytes.now
at_hand l s e = l.shared ∙ ap slab_of (sym (ap (λ (l : Floor). l.bytes.now) e))

pub returns-then-either : goal.returns-then-either
returns-then-either c = rw (← c.of-floor.ensures) (by_floor _ c.of-floor.result.shared c.few.ensures c.heavy.ensures c.either.ensures c.if-either.true)

pub panel_alphas-near-requires : goal.panel_alphas-near-requires
panel_alphas-near-requires c = first_at _ c.on-survey.result.floor.accepted

pub first_panel_broken-requires : goal.first_panel_broken-requires
first_panel_broken-requires c = record { panel = first_at _ c.on-survey.result.floor.accepted; alphas = c.panel_alphas-near.ensures.known }

pub returns-then-first_panel_broken : goal.returns-then-first_panel_broken
returns-then-first_panel_broken c = rw (← (same c.on-survey.result c.on-survey.ensures c.of-floor.ensures))
    (by_first _ c.on-survey.result.floor.accepted c.first_panel_broken.ensures c.if-first_panel_broken.true)

pub returns-then-broken_without_alpha : goal.returns-then-broken_without_alpha
returns-then-broken_without_alpha c = rw (← (same c.on-survey.result c.on-survey.ensures c.of-floor.ensures))
    (by_lines _ c.broken_without_alpha.ensures c.if-broken_without_alpha.true)

pub returns : goal.returns
returns c = rw (← (same c.on-survey.result c.on-survey.ensures c.of-floor.ensures))
    (by_panels _ (at_hand c.of-floor.result c.on-survey.result c.on-survey.ensures) c.few.ensures c.heavy.ensures c.either.ensures c.if-either.false
    c.broken_without_alpha.ensures c.if-broken_without_alpha.false c.panels_broken.ensures)
