-- What a line says, by what its parts are read as.
use Rattle.std.proofs.Common.{◌≡◌, ℕ, List, Option, Some, None, subst}
use Rattle.std.specs.Prelude.{MatchOption}
use Rattle.schema.specs.Data.{SchemaData}
use Rattle.world_script.specs.declared.act.Act.{Act}
use Rattle.world_script.specs.declared.line.Line.{Line}
use Rattle.world_script.specs.declared.place.Place.{Place}
use Rattle.world_script.specs.Lines.{Says, SaysAfter, act_at}

-- what a line says where its first word tells this
acts_same : (a b : Act × List ℕ) (read : Option (Act × List ℕ)) → read ≡ Some a → read ≡ Some b → a ≡ b
acts_same a b read e f = cc

pub says_so : (schema : SchemaData) (place : Place) (line : List ℕ) (act : Act) (rest : List ℕ) → act_at line ≡ Some (act, rest) → (said : Line)
    → Says schema place line said → SaysAfter schema place act rest said
says_so schema place line act rest e said h =
    let same = acts_same (h.act, h.rest) (act, rest) (act_at line) h.first e in
    subst (λ (x : Act × List ℕ). SaysAfter schema place x.0 x.1 said) same h.after

pub said_by : (schema : SchemaData) (place : Place) (line : List ℕ) (act : Act) (rest : List ℕ) (found : Option Line) → act_at line ≡ Some (act, rest)
    → MatchOption found ((said : Line) → SaysAfter schema place act rest said → ⊥) (λ said. SaysAfter schema place act rest said)
    → MatchOption found ((said : Line) → Says schema place line said → ⊥) (λ said. Says schema place line said)
said_by schema place line act rest None e h = λ said s. h said (says_so schema place line act rest e said s)
said_by schema place line act rest (Some said) e h = record { act = act; rest = rest; first = e; after = h }
