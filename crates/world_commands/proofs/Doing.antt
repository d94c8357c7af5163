-- Lines that happen one after another, and what is reported of them.
use Rattle.std.proofs.Common.{◌≡◌, ◌∙◌, ℕ, suc, Bool, true, false, ◌||◌, List, [], ◌∷◌, ◌++◌, length, refl, sym, ap, append-nil, append_assoc}
use Rattle.std.specs.List.{flat_map}
use Rattle.std.proofs.lemmas.Grind.{flat_map-append}
use Rattle.byzantine_world.specs.Begun.{IsBegun}
use Rattle.byzantine_world.specs.Codes.{ShowsWorld, WorldCode}
use Rattle.byzantine_world.specs.Shown.{AreShownReplicas}
use Rattle.schema.specs.Data.{Meaning}
use Rattle.world_commands.specs.Answers.{Reports, types_of}
use Rattle.world_commands.specs.Lines.{CarriesOn, CarriesRound, RunsOut, and_line, and_round, begins, has_carried, none}
use Rattle.world_commands.specs.Running.{LineDone, LinesDone}
use Rattle.world_commands.specs.Shown.{IsShown}
use Rattle.world_report.specs.Reports.{missed_text}
use Rattle.world_report.specs.declared.shown.ShownReplica.{ShownReplica}
use Rattle.world_rules.specs.Happens.{Happens}
use Rattle.world_rules.specs.Worlds.{SiteData, WorldData}
use Rattle.world_rules.specs.declared.event.Event.TheVariants.{Carry}
use Rattle.world_rules.specs.declared.event.Stepped.{Stepped}
use Rattle.world_script.specs.declared.line.Line.{Line}
use Rattle.world_script.specs.declared.script.Script.{Script}

-- ---- rounds of carries

-- So far each round carried a frame.
abbrev pub Rounds : Meaning → ℕ → WorldCode → WorldCode → Type 0
Rounds ask session old code = (w : WorldData) → ShowsWorld old w → (mid : WorldData) × CarriesOn ask session w mid × ShowsWorld code mid

-- what one round does
abbrev pub Round : Meaning → ℕ → WorldCode → Bool → WorldCode → Type 0
Round ask session old found code = (w : WorldData) → ShowsWorld old w → (next : WorldData) × CarriesRound ask session w next found × ShowsWorld code next

-- what one carry does
abbrev pub OneWay : Meaning → ℕ → Bool → WorldCode → Bool → WorldCode → Type 0
OneWay ask session forward old found code =
    (w : WorldData) → ShowsWorld old w → (answer : Stepped) × ((next : WorldData) × Happens ask w (Carry session forward) answer next × ShowsWorld code next × (found ≡ has_carried answer))

pub rounds_begin : (ask : Meaning) (session : ℕ) (code : WorldCode) → Rounds ask session code code
rounds_begin ask session code w shows = (w, begins w refl, shows)

pub rounds_go : (ask : Meaning) (session : ℕ) (old code code' : WorldCode) → Rounds ask session old code → Round ask session code true code' → Rounds ask session old code'
rounds_go ask session old code code' so_far next w shows =
    let m = so_far w shows in
    let n = next m.0 m.2 in
    (n.0, and_round m.0 n.0 m.1 n.1, n.2)

pub rounds_end : (ask : Meaning) (session : ℕ) (old code code' : WorldCode) → Rounds ask session old code → Round ask session code false code'
    → (w : WorldData) → ShowsWorld old w → (next : WorldData) × RunsOut ask session w next × ShowsWorld code' next
rounds_end ask session old code code' so_far last w shows =
    let m = so_far w shows in
    let n = last m.0 m.2 in
    (n.0, record { mid = m.0; carried = m.1; rests = n.1 }, n.2)

pub both_ways : (ask : Meaning) (session : ℕ) (old mid code : WorldCode) (forward back found : Bool) → found ≡ (forward || back) → OneWay ask session true old forward mid
    → OneWay ask session false mid back code → Round ask session old found code
both_ways ask session old mid code forward back found is on back_way w shows =
    let a = on w shows in
    let b = back_way a.1.0 a.1.2 in
    let both : found ≡ (has_carried a.0 || has_carried b.0) = is ∙ (λ i. a.1.3 i || b.1.3 i) in
    (b.1.0, record { forward = a.0; back = b.0; between = a.1.0; first = a.1.1; second = b.1.1; is = both }, b.1.2)

-- ---- lines

-- The first of these lines have happened, and the rest is to come.
pub record Going (ask : Meaning) (all rest : List Line) (old code : WorldCode) (report report' : List ℕ) : Type 0 where
  pub before : List Line
  pub are : all ≡ before ++ rest
  pub done : (w : WorldData) → ShowsWorld old w → LinesDone ask w before code report report'

pub going_begins : (ask : Meaning) (all : List Line) (code : WorldCode) (report : List ℕ) → Going ask all all code code report report
going_begins ask all code report = record {
  before = [];
  are = refl;
  done = λ w shows. record { missed = []; next = w; happen = none w refl; shows = shows; added = sym (append-nil report) };
}

pub going_on : (ask : Meaning) (all : List Line) (line : Line) (after : List Line) (old code code' : WorldCode) (report mid report' : List ℕ) → Going ask all (line ∷ after) old code report mid
    → ((w : WorldData) → ShowsWorld code w → LineDone ask w line code' mid report') → Going ask all after old code' report report'
going_on ask all line after old code code' report mid report' g step = record {
  before = g.before ++ line ∷ [];
  are = g.are ∙ sym (append_assoc g.before (line ∷ []) after);
  done = λ w shows.
      let d = g.done w shows in
      let s = step d.next d.shows in
      let text : report' ≡ report ++ flat_map missed_text (d.missed ++ s.missed) =
      s.added ∙ ap (λ (r : List ℕ). r ++ flat_map missed_text s.missed) d.added ∙ append_assoc report (flat_map missed_text d.missed) (flat_map missed_text s.missed)
      ∙ ap (λ (t : List ℕ). report ++ t) (sym (flat_map-append missed_text d.missed s.missed)) in
      record {
        missed = d.missed ++ s.missed;
        next = s.next;
        happen = and_line g.before line d.missed s.missed d.next s.next d.happen s.happens;
        shows = s.shows;
        added = text;
      };
}

-- ---- a report

pub reported : (ask : Meaning) (audit : Bool) (script : Script) (begun code : WorldCode) (so_far report : List ℕ) → IsBegun ask script.schema script.replicas (types_of script) script.number begun
    → ((w : WorldData) → ShowsWorld begun w → LinesDone ask w script.lines code [] so_far)
    → ((w : WorldData) → ShowsWorld code w → (text : List ℕ) × IsShown ask audit w text × (report ≡ so_far ++ text)) → Reports ask audit script report
reported ask audit script begun code so_far report b run show =
    let d = run b.world b.shows in
    let s = show d.next d.shows in
    record {
      schema = b.schema;
      first = b.world;
      last = d.next;
      missed = d.missed;
      shown = s.0;
      new = b.new;
      of_script = b.text_is;
      count = b.count_is;
      keys = b.keys;
      happen = d.happen;
      shows = s.1;
      is = s.2 ∙ ap (λ (t : List ℕ). t ++ s.0) d.added;
    }

pub shown_length : (ask : Meaning) (sites : List SiteData) (shown : List ShownReplica) → AreShownReplicas ask sites shown → length shown ≡ length sites
shown_length ask [] shown are = ap length are
shown_length ask (site ∷ sites) shown are = ap length are.2 ∙ ap suc (shown_length ask sites are.1 are.4)
