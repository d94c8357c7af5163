-- Lines one after another, as a loop reads them, and what a text then is.
use Rattle.std.proofs.Common.{◌≡◌, ℕ, ◌+◌, ◌≤◌, Bool, true, false, cond, List, [], ◌∷◌, ◌++◌, length, Result, Ok, Err, refl, sym, ap, subst, ◌∙◌, append_assoc, length-append, arith, inr}
use Rattle.std.specs.Prelude.{IfErr, IfOk}
use Rattle.std.specs.List.{AllByRecursion}
use Rattle.std.proofs.lemmas.List.{append-nil}
use Rattle.text_words.specs.Lines.{Begins, lines_of}
use Rattle.schema.specs.Data.{Meaning, SchemaData}
use Rattle.world_script.specs.declared.fault.ScriptError.{ScriptError}
use Rattle.world_script.specs.declared.fault.ScriptError.TheVariants as error
use Rattle.world_script.specs.declared.fault.ScriptFault.{ScriptFault}
use Rattle.world_script.specs.declared.fault.ScriptFault.TheVariants.{Schema, AtLine}
use Rattle.world_script.specs.declared.limits.TheConstants.{MAX_SCRIPT_BYTES}
use Rattle.world_script.specs.declared.line.Line.{Line}
use Rattle.world_script.specs.declared.place.Place.{Place}
use Rattle.world_script.specs.declared.script.Script.{Script}
use Rattle.world_script.specs.Lines.{IsPlace, Says, opens, place_after}
use Rattle.world_script.specs.Outcome.{Answers, HasCause, IfFault, OfLine}
use Rattle.world_script.specs.Scripts.{BodyFault, FaultIn, FirstFault, IsScript, LinesSay}

no_lines : lines_of [] ≡ []
unfolding lines_of
no_lines = refl

-- ---- a line more

pub begins_length : (text line rest : List ℕ) → Begins text line rest → length line ≤ length text
begins_length text line rest h =
    let e = ap length h.parts in
    let l = length-append line (h.end ++ rest) in
    omega arith

-- what the lines from here say comes after what the lines so far say
abbrev pub ReadOn : SchemaData → Place → List (List ℕ) → List Line → Place → List (List ℕ) → Type 0
ReadOn schema place lines said start all = (more : List Line) → LinesSay schema place lines more → LinesSay schema start all (said ++ more)

-- a fault of the lines from here is one of all lines
abbrev pub FailOn : SchemaData → Place → List (List ℕ) → Place → List (List ℕ) → Type 0
FailOn schema place lines start all = (number : ℕ) → FaultIn schema place lines number → FaultIn schema start all number

pub read_more : (schema : SchemaData) (place : Place) (rest line after : List ℕ) (said : List Line) (first : Line) (start : Place) (all : List (List ℕ))
    → lines_of rest ≡ line ∷ lines_of after → Says schema place line first → ReadOn schema place (lines_of rest) said start all
    → ReadOn schema (place_after place first) (lines_of after) (said ++ first ∷ []) start all
read_more schema place rest line after said first start all e says on = λ more h.
    subst (λ (o : List Line). LinesSay schema start all o) (sym (append_assoc said (first ∷ []) more))
    (on (first ∷ more) (subst (λ (ls : List (List ℕ)). LinesSay schema place ls (first ∷ more)) (sym e) (first, more, says, h, refl)))

pub fail_more : (schema : SchemaData) (place : Place) (rest line after : List ℕ) (first : Line) (start : Place) (all : List (List ℕ))
    → lines_of rest ≡ line ∷ lines_of after → Says schema place line first → FailOn schema place (lines_of rest) start all
    → FailOn schema (place_after place first) (lines_of after) start all
fail_more schema place rest line after first start all e says on = λ number f.
    on number (subst (λ (ls : List (List ℕ)). FaultIn schema place ls number) (sym e) (inr (first, says, f)))

pub read_end : (schema : SchemaData) (place : Place) (rest : List ℕ) (said : List Line) (start : Place) (all : List (List ℕ)) → rest ≡ []
    → ReadOn schema place (lines_of rest) said start all → LinesSay schema start all said
read_end schema place rest said start all e on =
    let lines : lines_of rest ≡ [] = ap lines_of e ∙ no_lines in
    subst (λ (o : List Line). LinesSay schema start all o) (append-nil said) (on [] (subst (λ (ls : List (List ℕ)). LinesSay schema place ls []) (sym lines) refl))

opened_more : (b : Bool) (opened number : ℕ) → opened ≤ number → cond b (opened + 1) opened ≤ number + 1
opened_more true opened number h = omega arith
opened_more false opened number h = omega arith

pub next_place : (place : Place) (first : Line) → IsPlace place → place.number ≤ MAX_SCRIPT_BYTES → IsPlace (place_after place first)
next_place place first h low = record { replicas = h.replicas; opened = opened_more (opens first) place.opened place.number h.opened; number = omega arith }

pub all_more : {X : Type 0} (P : X → Type 0) (xs : List X) (x : X) → AllByRecursion P xs → P x → AllByRecursion P (xs ++ x ∷ [])
all_more P [] x h p = (p, tt)
all_more P (y ∷ ys) x h p = (h.0, all_more P ys x h.1 p)

-- ---- the lines from `WORLD` on

pub body_none : (schema : SchemaData) (number : ℕ) (text : List ℕ) (e : ScriptError) → text ≡ [] → IfFault e (OfLine (λ line. line ≡ number))
    → IfFault e (OfLine (BodyFault schema number (lines_of text)))
body_none schema number text (error.Fault (Schema fault)) none h = absurd h
body_none schema number text (error.Fault (AtLine line)) none h =
    let lines : lines_of text ≡ [] = ap lines_of none ∙ no_lines in
    subst (λ (ls : List (List ℕ)). BodyFault schema number ls line) (sym lines) h
body_none schema number text error.Memory none h = tt

-- a text is one script
abbrev pub OneScript : Type 0
OneScript = (ask : Meaning) (text : List ℕ) (script other : Script) → IsScript ask text script → IsScript ask text other → script ≡ other

-- a text that is a script has no fault
abbrev pub NoFault : Type 0
NoFault = (ask : Meaning) (text : List ℕ) (script : Script) (fault : ScriptFault) → IsScript ask text script → FirstFault ask text fault → ⊥

pub answers : OneScript → NoFault → (ask : Meaning) (text : List ℕ) (r : Result Script ScriptError) → IfOk r (λ script. IsScript ask text script)
    → IfErr r (λ e. HasCause ask text e) → (wanted : Script) → IsScript ask text wanted → Answers r wanted
answers one none ask text (Ok script) found fault wanted h = one ask text script wanted found h
answers one none ask text (Err (error.Fault f)) found fault wanted h = none ask text wanted f h fault
answers one none ask text (Err error.Memory) found fault wanted h = tt
