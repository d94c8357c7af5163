use Rattle.std.proofs.Common.{◌≡◌, ◌∙◌, ℕ, List, ◌++◌, codes, String, Result, Ok, Err, IfOk, sym, ap}
use Rattle.std.specs.Fmt.{decimal}
use Rattle.std.specs.String.{string_bytes}
use Rattle.std.specs.declared.alloc.Global.{Global}
use Rattle.hex.specs.Hex.{encode_lower}
use Rattle.update_model.specs.declared.update_id.UpdateId.{UpdateId}
use Rattle.update_stream.specs.declared.record_fault.RecordFault.{RecordFault}
use Rattle.update_stream.specs.declared.record_fault.RecordFault.TheVariants.{Lacks}
use Rattle.outcomes.specs.Texts.{record_text}
use Rattle.outcomes.proofs.lines.record_line.Goals as goal

-- the line with the digits is the line with the id
with_digits : {E : Type 0} (r : Result (String Global) E) (n : ℕ) (fault : RecordFault) (id : UpdateId) (name : List ℕ) → fault ≡ Lacks id → name ≡ encode_lower id.0
    → IfOk r (λ line. string_bytes line ≡ codes "! update " ++ decimal n ++ (codes ": lacks " ++ (name ++ codes "\n"))) → IfOk r (λ line. string_bytes line ≡ record_text n fault)
with_digits (Ok line) n fault id name is digits text =
    text ∙ ap (λ (bytes : List ℕ). codes "! update " ++ decimal n ++ (codes ": lacks " ++ (bytes ++ codes "\n"))) digits ∙ ap (record_text n) (sym is)
with_digits (Err e) n fault id name is digits text = tt

pub returns-in_ok-digits-in-Lacks : goal.returns-in_ok-digits-in-Lacks
returns-in_ok-digits-in-Lacks c =
    with_digits c.format-in-Lacks.result c.args.number c.args.fault.now c.in-Lacks.id c.as_str-name.result.now c.in-Lacks.is
    (c.as_str-name.ensures.value ∙ c.in_ok-digits-in-Lacks.ensures) c.format-in-Lacks.ensures.ok
