-- What holds of an end, however it came to its state.
use Rattle.std.proofs.Common.{◌≡◌, List, map, ℕ, Option, Some, None, refl, sym, ap, subst, ◌∙◌}
use Rattle.std.proofs.lemmas.List.{map-append}
use mathlib.Core.List.{IsPrefix}
use Rattle.update_codec.specs.Parts.{entry_of}
use Rattle.update_model.specs.declared.update_id.UpdateId.{UpdateId}
use Rattle.update_model.specs.Batch.{Limits}
use Rattle.update_model.specs.Entry.{Entry}
use Rattle.session_rules.specs.Course.{opened}
use Rattle.session_rules.specs.Steps.{StepsBy}
use Rattle.session_rules.specs.State.{FrameData, SessionData, OutData}
use Rattle.session_rules.specs.declared.role.Role.{Role}
use Rattle.session_rules.specs.declared.role.Role.TheVariants.{Initiator, Responder}
use Rattle.session_rules.specs.declared.end.End.{End}
use Rattle.link_frames.specs.Course.{Comes, opens, hears}
use Rattle.link_frames.proofs.Having.{Has, has_more, step_has}

opened_has : (role : Role) (database node : List ℕ) (old : List UpdateId) (list now : List Entry) → Has (opened role database node old list) now
opened_has Initiator database node old list now = record { sent = λ is. absurd cc; done = λ is. absurd cc; fresh = λ is. refl }
opened_has Responder database node old list now = record { sent = λ is. absurd cc; done = λ is. absurd cc; fresh = λ is. refl }

prefix_has : (s : SessionData) (members before : List (List ℕ)) → IsPrefix members before → Has s (map entry_of members) → Has s (map entry_of before)
prefix_has s members before p h = has_more s (map entry_of members) (map entry_of p.0) (map entry_of before) (sym (ap (map entry_of) p.1) ∙ map-append entry_of members p.0) h

any_step : (limits : Limits) (s next : SessionData) (before after : List Entry) (out : OutData) (frame : FrameData) (ended : Option End) → s.ended ≡ ended → StepsBy ended limits s before frame next out after
    → Has s before → Has next after
any_step limits s next before after out frame (Some e) is t h = subst (λ (k : SessionData). Has k after) (sym t.0) (subst (λ (l : List Entry). Has s l) (sym t.2) h)
any_step limits s next before after out frame None is t h =
    (step_has limits s before next out after is frame (subst (λ (e : Option End). StepsBy e limits s before frame next out after) (sym is) t)).goes_on h

module _ (limits : Limits) (role : Role) (database node : List ℕ) (old : List UpdateId) (known : List (List ℕ)) where
  pub comes_has : (s : SessionData) (members : List (List ℕ)) (heard said : List FrameData) → Comes limits role database node old known s members heard said → Has s (map entry_of members)
  comes_has s members heard said (opens s' members' heard' said' out is greets none frames knows) =
      subst (λ (k : SessionData). Has k (map entry_of members)) (sym is) (opened_has role database node old (map entry_of members) (map entry_of members))
  comes_has t after all answers (hears s t' members before after' heard said all' answers' frame out comes begins step grew says) =
      any_step limits s t (map entry_of before) (map entry_of after) out frame s.ended refl step (prefix_has s members before begins (comes_has s members heard said comes))
