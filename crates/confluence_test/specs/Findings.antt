-- Invariants that are refused, as the scan of a schema finds them.
use Rattle.std.specs.Prelude.{◌≡◌, ℕ, ◌<◌, ◌≤◌, Bool, true, false, not, List, find, slice_get, Option, None, Some, is_none, if◌then◌else◌}
use Rattle.schema.specs.declared.action.Action.{Action}
use Rattle.schema.specs.declared.action.Action.TheVariants as action
use Rattle.schema.specs.declared.table_def.TableDef.{TableDef}
use Rattle.table_model.specs.Visible.{Rules}
use Rattle.table_model.specs.Invariants.{Claim, Unique, UniqueKept, AtMost, Refers, Check, Match, Declared, each_from, unique_declared}
use Rattle.confluence_laws.specs.Confluence.{accepts}
use Rattle.confluence_test.specs.Plans.{permanent_at}
use Rattle.confluence_test.specs.declared.finding.Finding.{Finding}
use Rattle.confluence_test.specs.declared.finding.Flaw.{Flaw}
use Rattle.confluence_test.specs.declared.finding.Flaw.TheVariants as flaw

-- what an invariant that is refused says
abbrev pub claim_of : Flaw → Claim
claim_of (flaw.Doubles table column) = Unique table column
claim_of (flaw.TooMany table count) = AtMost table count
claim_of (flaw.Dangles table column target) = Refers table column target action.Restrict

abbrev pub declared_of : Finding → Declared
declared_of finding = record { which = finding.which; claim = claim_of finding.flaw }

-- whether the rule refuses an invariant
abbrev pub is_refused : Rules → Declared → Bool
is_refused rules declared = not (accepts rules declared.claim)

-- the first one that it refuses
abbrev pub first_refused : Rules → List Declared → Option Declared
first_refused rules declared = find (is_refused rules) declared

-- whether the rule accepts a reference, by what a list says of tables
abbrev pub accepts_to : List Bool → ℕ → Action → Bool
accepts_to permanence target action.Restrict = permanent_at permanence target
accepts_to permanence target action.Cascade = true
accepts_to permanence target action.SetNull = true

-- whether it accepts an invariant, by what a list says of tables
abbrev pub accepts_by : List Bool → Claim → Bool
accepts_by permanence (Unique table column) = false
accepts_by permanence (UniqueKept table column) = true
accepts_by permanence (AtMost table count) = false
accepts_by permanence (Refers table column target act) = accepts_to permanence target act
accepts_by permanence (Check table tree) = true
accepts_by permanence (Match table rule) = true

-- the first one that it refuses, by what a list says of tables
abbrev pub refused_by : List Bool → List Declared → Option Declared
refused_by permanence declared = find (λ d. not (accepts_by permanence d.claim)) declared

-- the first UNIQUE of a table, which is refused, unless the table keeps the least row
abbrev pub unique_refused : ℕ → TableDef → Option Declared
unique_refused number table = if is_none table.kept then slice_get (each_from (unique_declared None number) 0 table.uniques) 0 else None

-- the table that a column refers to, where that is by RESTRICT and the table is not permanent by what a list says
abbrev pub dangling : List Bool → Option (ℕ × Action) → Option ℕ
dangling permanence None = None
dangling permanence (Some target) = if accepts_to permanence target.0 target.1 then None else Some target.0

-- A flaw is of this table: of a limit from 1 to 64, or of a reference to no later table.
abbrev pub IsFlawOf : ℕ → Flaw → Type 0
IsFlawOf number (flaw.Doubles table column) = table ≡ number
IsFlawOf number (flaw.TooMany table most) = (table ≡ number) × (1 ≤ most) × (most ≤ 64)
IsFlawOf number (flaw.Dangles table column target) = (table ≡ number) × (target ≤ number)

-- A flaw is of one of so many tables.
abbrev pub IsFlaw : ℕ → Flaw → Type 0
IsFlaw count flaw = (number : ℕ) × (number < count) × IsFlawOf number flaw
