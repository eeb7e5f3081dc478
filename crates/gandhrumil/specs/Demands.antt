-- The three demands on the product, in their own words, as statements about what the exported functions promise. proofs/Demands shows them.
-- `Opened` and `Changed` are the promises of opening and of a change (crate moments), `panel_of` that of the panel query (crate verdict), `clear_of` that of
-- the question whether a floor is clear (crate clear), `Placed` that of the list of places where a limit is broken (crate broken), `steel_of` that of the steel query and
-- `Scheduled` that of the bar schedule (crate steel); none of them asks anything of the caller. What these say is said here by statements: `GivenBy` a chain of checks in the
-- order tried, `Broken`, `Clear`, `Places`, `PanelEnough`, `Fits`, `right_number`, the number that the rules give, `GoverningAt`, the five of a support, and `ScheduleOf`, the
-- records of the schedule.
-- Assumes nothing.
use Rattle.std.specs.Prelude.{ℕ, ◌+◌, ◌-◌, ◌*◌, ◌≤◌, ◌<◌, List, ◌↔◌, ◌≡◌, length, get_or}
use Rattle.numbers.specs.Chains.{GivenBy}
use Rattle.numbers.specs.Least.{Least}
use Rattle.floor.specs.Refusal.{Given}
use Rattle.changes.specs.Change.{change_kind, change_index, changed}
use Rattle.answers.specs.declared.Answer.{Answer}
use Rattle.limits.specs.Meaning.{Broken, Clear}
use Rattle.verdict.specs.Answers.{panel_of, PanelAnswer}
use Rattle.clear.specs.Answers.{clear_of, ClearAnswer}
use Rattle.broken.specs.Meaning.{PlaceList, Places, limits_listed}
use Rattle.broken.specs.Answers.{places_most, Placed, PlacesAnswer}
use Rattle.tables.specs.Width.{record_width}
use Rattle.tables.specs.Places.{Place, Inside, record_count, place_of}
use Rattle.frames.specs.Spans.{span_at}
use Rattle.plan.specs.Ways.{pick}
use Rattle.plan.specs.Plan.{bays_of, thickness}
use Rattle.supports.specs.Governing.{support_width, five_from, support_number}
use Rattle.supports.specs.Meaning.{GoverningAt}
use Rattle.moments.specs.Lent.{Lent}
use Rattle.moments.specs.Tables.{Lodged}
use Rattle.moments.specs.Opening.{Opened}
use Rattle.moments.specs.Changing.{Changed}
use Rattle.moments.specs.Meaning.{GivenOpening, GivenChanging, Earned, number_in, right_number, AddsUp, governing_in, Supported, Agrees, GoverningOf, LentNamed}
use Rattle.moments.specs.Mornings.{Morning, standing, Held}
use Rattle.steel.specs.declared.query.Query.{Query}
use Rattle.steel.specs.Query.{InRange, depth_of}
use Rattle.steel.specs.Area.{Fits}
use Rattle.steel.specs.Steel.{SteelAnswer, steel_of}
use Rattle.steel.specs.Strips.{strips, strip_width, moment_number, strip_moment}
use Rattle.steel.specs.Barred.{query_in, SomeLacks}
use Rattle.steel.specs.Schedule.{schedule_length, Scheduled}
use Rattle.steel.specs.Meaning.{ScheduleAnswer, schedule_most, roomy_checks}

-- "Every input gets an answer: a floor file, a change, a panel or a steel query, however damaged. Nothing relies on the caller having looked first.
-- A refusal carries its number from the table, and the lent floor and moment table keep what they held."
-- Any bytes, slices and numbers are taken: there is always an answer, because the exported functions have no `requires` and every function returns.
pub record DemandOne : Type 0 where
  pub opening : {f : List ℕ} {l l' : Lent} {a : Answer} → Opened f l a l'
      → GivenOpening f l a.refusal × Earned a × (¬ (a.refusal ≡ 0) → l' ≡ l)
  pub change : {f c f' : List ℕ} {l l' : Lent} {a : Answer} → Changed f l c a f' l'
      → GivenChanging f l c a.refusal × Earned a × (¬ (a.refusal ≡ 0) → (f' ≡ f) × (l' ≡ l))
  pub panel : (f : List ℕ) (x y : ℕ) → PanelAnswer f x y (panel_of f x y)
  -- each of 11, 12 and 0 exactly when 01 says, and 0 mm² where refused
  pub steel : (q : Query) → SteelAnswer q (steel_of q)
  -- 02, Four: "Yes exactly when the full verdict is 0; a refused floor answers no with its number"
  pub clear : (f : List ℕ) → ClearAnswer f (clear_of f)
  -- beyond 02, where it is broken: "a place is listed exactly where its limit's statement holds there, each once, in that order"
  pub places : {f t t' : List ℕ} {a : Answer} → Placed f t a t' → PlacesAnswer f t a t'
  -- 02, Five: "Order: 1 to 7, 16, 15, 17. A refused schedule writes nothing", and otherwise every record, to the byte
  pub schedule : {f t t' : List ℕ} {a : Answer} → Scheduled f t a t' → ScheduleAnswer f t a t'

-- What verdict v and the table tell of floor f: which limits are broken; if none is, every number is the one that the rules give, and the three
-- parts of each section add up; otherwise all numbers are 0. The governing slice agrees with the table, and is 0 where the table is (02, One).
-- Numbers past the table and past the slice are as they were lent.
pub record Told (f : List ℕ) (l : Lent) (v : ℕ) (l' : Lent) : Type 0 where
  pub verdict : Broken f v
  pub moments : Clear f → (p : Place) → Inside f p
      → ((n : ℕ) → n < record_width → number_in f l'.table p n ≡ right_number f p n) × AddsUp f l'.table p
  pub none : ¬ Clear f → (p : Place) → Inside f p → (n : ℕ) → n < record_width → number_in f l'.table p n ≡ 0
  pub past : (i : ℕ) → record_count f * record_width ≤ i → get_or l'.table i 0 ≡ get_or l.table i 0
  pub same_length : length l'.table ≡ length l.table
  pub governing : GoverningOf f l l'
  pub supports : (p : Place) → Supported f p → GoverningAt (bays_of f) l'.table p (five_from l'.governing (support_number (bays_of f) p * support_width))
  pub ungoverned : ¬ Clear f → (p : Place) → Supported f p → (n : ℕ) → n < support_width → governing_in f l'.governing p n ≡ 0

-- "A floor is accepted exactly when document 01's rules accept it. The verdict names exactly the limits that are broken, and whether the slab is
-- too thin. With none broken and the slab thick enough, each beam, slab and middle strip moment is the one the rules give, and the three add up to
-- their section exactly. Steel for a query in range is the least whole area that carries the moment within the steel limits, refused exactly when
-- there is none."
pub record DemandTwo : Type 0 where
  pub accepted : {f : List ℕ} {l l' : Lent} {a : Answer} → Opened f l a l' → Lodged f l → (a.refusal ≡ 0) ↔ Given 0 f
  pub opening : {f : List ℕ} {l l' : Lent} {a : Answer} → Opened f l a l' → a.refusal ≡ 0 → Told f l a.value l'
  pub change : {f c f' : List ℕ} {l l' : Lent} {a : Answer} → Changed f l c a f' l' → a.refusal ≡ 0 → Broken f' a.value
  -- 02, Four: yes exactly where opening, with room for what it writes, gives verdict 0, and the number of opening
  pub clear : {f : List ℕ} {l l' : Lent} {a : Answer} → Opened f l a l' → Lodged f l
      → (((clear_of f).value ≡ 1) ↔ ((a.refusal ≡ 0) × (a.value ≡ 0))) × ((clear_of f).refusal ≡ a.refusal)
  -- beyond 02: "the sum of the limits listed is the verdict; none is listed exactly when the floor is clear"
  pub places : {f : List ℕ} {l l' : Lent} {a : Answer} {ps : PlaceList} → Opened f l a l' → a.refusal ≡ 0 → Places f ps
      → (limits_listed ps ≡ a.value) × ((length ps ≡ 0) ↔ Clear f)
  -- in a slice of `places_most` numbers or more the number is the floor's own, 0 to 7: never 25
  pub suffices : {f t t' : List ℕ} {a : Answer} → Placed f t a t' → places_most ≤ length t → Given a.refusal f
  -- 02, Five: "as 01 works them out for this floor": the moment of each record is the number that opening puts into the table
  pub moments : {f : List ℕ} {l l' : Lent} {a : Answer} → Opened f l a l' → a.refusal ≡ 0 → a.value ≡ 0
      → (k q : ℕ) → k < record_count f → q < strips → strip_moment (span_at f k) q ≡ get_or l'.table (k * record_width + moment_number q) 0
  -- 02, Six: the area is worked out at t − 26 in x frames, and in y frames, whose bars lie on the x bars, at t − 38
  pub layers : (f : List ℕ) → Given 0 f → (k q : ℕ) → depth_of (query_in f k q) ≡ pick (place_of f k).way (thickness f - 26) (thickness f - 38)
  -- the schedule's queries are in range, so that 11 cannot arise inside
  pub inside : (f : List ℕ) → Given 0 f → Clear f → (k q : ℕ) → k < record_count f → 0 < strip_width (span_at f k) q → InRange (query_in f k q)
  -- so 17 is given, of a clear floor with room for its schedule, exactly where some strip has "a strip width of 0 or less, no steel area that fits, or no bar that
  -- allows a spacing"
  pub seventeen : {f t t' : List ℕ} {a : Answer} → Given 0 f → Clear f → schedule_length f ≤ length t → Scheduled f t a t' → (a.refusal ≡ 17) ↔ SomeLacks f
  -- in a buffer of `schedule_most` bytes or more 15 is not given
  pub schedule_suffices : {f t t' : List ℕ} {a : Answer} → Scheduled f t a t' → schedule_most ≤ length t → GivenBy (roomy_checks f) a.refusal
  pub steel : (q : Query) → InRange q
      → (((steel_of q).refusal ≡ 0) ↔ ((As : ℕ) × Fits q As))
      × (((steel_of q).refusal ≡ 12) ↔ ((As : ℕ) → ¬ Fits q As))
      × ((steel_of q).refusal ≡ 0 → Least (Fits q) (steel_of q).value)

-- "Start from an accepted floor whose table was filled by the program and make any run of changes, refused ones among them, with nobody else writing
-- to either. The floor is then the first one with each change not refused put in its place in turn, the table equals that floor's table worked out
-- afresh, and each change not refused gave the verdict of the floor it made. Where the verdict is clear before and after a change, only the records
-- document 01 names for it are written."
pub record DemandThree : Type 0 where
  pub morning : {f f' : List ℕ} {l l₁ l' : Lent} {a : Answer} {cs : List (List ℕ)} {rs : List Answer}
      → Opened f l a l₁ → a.refusal ≡ 0 → Morning f l₁ cs rs f' l' → Held f l cs rs f' l'
  -- so at its end the last verdict given and the table describe the floor as it then is
  pub afterwards : {f f' : List ℕ} {l l₁ l' : Lent} {a : Answer} {cs : List (List ℕ)} {rs : List Answer}
      → Opened f l a l₁ → a.refusal ≡ 0 → Morning f l₁ cs rs f' l' → Told f' l (standing a.value rs) l'
  -- each change by itself, over any lent table and slice, right or wrong: the floor is the changed one, and where either verdict is not clear the whole
  -- table and every support are written
  pub stored : {f c f' : List ℕ} {l l' : Lent} {a : Answer} → Changed f l c a f' l'
      → a.refusal ≡ 0 → (f' ≡ changed f c) × (¬ (Clear f × Clear f') → Told f' l a.value l')
  -- 02, One: "If the slice agreed with the table before a change, it agrees with it after"
  pub agrees : {f c f' : List ℕ} {l l' : Lent} {a : Answer} → Changed f l c a f' l' → Agrees f l → Agrees f' l'
  pub written : {f c f' : List ℕ} {l l' : Lent} {a : Answer} → Changed f l c a f' l'
      → a.refusal ≡ 0 → Clear f → Clear f' → LentNamed f' (change_kind c) (change_index c) l l'
