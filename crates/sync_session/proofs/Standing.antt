-- What a session stands on, kept from step to step.
use Rattle.std.proofs.Common.{◌≡◌, ℕ, length, take, map, take_all, arith, Result, Ok, Err, IfOk, OnOk, List, [], ◌∷◌, ◌++◌, All, sym, ap, subst, ◌∙◌, append_assoc}
use Rattle.std.proofs.lemmas.List.Elements.{All-push}
use Rattle.update_check.specs.Signed.{IsChecked}
use Rattle.update_model.specs.Rule.{RuleData}
use Rattle.session_rules.specs.declared.end.End.{End}
use Rattle.std.proofs.lemmas.List.{length-map}
use Rattle.update_codec.specs.Parts.{entry_of, preds_of}
use Rattle.update_model.specs.Graph.{has}
use Rattle.sync_session.specs.declared.out.Out.{Out}
use Rattle.sync_frames.specs.Payload as payload
use Rattle.sync_session.specs.Kept.{Kept, GreetsOver, IsSeeking, Stands, updates_in, with_end, with_hello, with_item}
use Rattle.sync_session.specs.Wants.{SeeksToo}
use Rattle.sync_session.proofs.Wanting.{sought_gathered, sought_heads}
use Rattle.session_rules.specs.Steps.{heads_in}
use Rattle.update_model.specs.declared.update_id.UpdateId.{UpdateId}

-- where it ends
pub stands_end : (ending : End) (k k' : Kept) → k' ≡ with_end ending k → (rule : RuleData) (members : List (List ℕ)) → Stands rule k members → Stands rule k' members
stands_end ending k k' is rule members s = subst (λ (x : Kept). Stands rule x members) (sym is) (record { below = s.below; heads = s.heads; under = s.under; seeks = λ going. absurd cc })

-- where an Item is passed over
pub stands_again : (k k' : Kept) → k' ≡ with_item k k.pending → (rule : RuleData) (members : List (List ℕ)) → Stands rule k members → Stands rule k' members
stands_again k k' is rule members s = subst (λ (x : Kept). Stands rule x members) (sym is) (record { below = s.below; heads = s.heads; under = s.under; seeks = s.seeks })

-- where one is gathered
pub stands_new : (u : List ℕ) (k k' : Kept) (sought : List UpdateId) → k' ≡ record (with_item k (record { waiting = k.pending.waiting; gathered = k.pending.gathered ++ u ∷ [] })) { sought = sought }
    → SeeksToo k.sought (preds_of u) sought → (rule : RuleData) (members : List (List ℕ)) → IsChecked rule u → Stands rule k members → Stands rule k' members
stands_new u k k' sought is too rule members checked s = subst (λ (x : Kept). Stands rule x members) (sym is) (record {
  below = s.below;
  heads = s.heads;
  under = rw (← append_assoc) (All-push (IsChecked rule) (k.pending.waiting ++ k.pending.gathered) u s.under checked);
  seeks = λ going. sought_gathered u (heads_in k.state.peer) (map entry_of members) k.pending k.state.asked k.sought sought (s.seeks going) too;
})

-- where the initiator takes a Hello
pub stands_hello : (hello : payload.HelloData) (k k' : Kept) (sought : List UpdateId) → k' ≡ with_hello hello sought k → SeeksToo k.sought hello.heads sought
    → (rule : RuleData) (members : List (List ℕ)) → Stands rule k members → Stands rule k' members
stands_hello hello k k' sought is too rule members s = subst (λ (x : Kept). Stands rule x members) (sym is) (record {
  below = s.below;
  heads = s.heads;
  under = s.under;
  seeks = λ going. sought_heads hello.heads (heads_in k.state.peer) (map entry_of members) k.pending k.state.asked k.sought sought (s.seeks going) too;
})

-- where the responder takes one
pub stands_greeting : (hello : payload.HelloData) (k k' : Kept) (out : Out) (rule : RuleData) (members : List (List ℕ)) → GreetsOver (map entry_of members) hello k k' out → k'.below ≡ length members
    → Stands rule k members → Stands rule k' members
stands_greeting hello k k' out rule members g all s =
    let whole_list : take k'.below (map entry_of members) ≡ map entry_of members = take_all k'.below (map entry_of members) (let same = length-map members entry_of in omega arith) in
    record {
      below = omega arith;
      heads = λ id. rw whole_list (ap (λ (x : Kept). has x.heads id) g.state ∙ g.is_hello.heads.exact id);
      under = subst (λ (x : Kept). All (IsChecked rule) (updates_in x)) (sym g.state) s.under;
      seeks = subst (IsSeeking (map entry_of members)) (sym g.state)
          (λ going. sought_heads hello.heads (heads_in k.state.peer) (map entry_of members) k.pending k.state.asked k.sought k'.sought (s.seeks going) g.sought);
    }

-- a fact of what a call answers and one that comes with it
pub on_both : {X E : Type 0} (r : Result X E) (P : X → Type 0) (Q R : Type 0) → ((x : X) → P x → Q → R) → IfOk r P → OnOk r Q → OnOk r R
on_both (Ok x) P Q R f p q = f x p q
on_both (Err e) P Q R f p q = q

-- two facts that come with what a call answers
pub on_ok_both : {X E : Type 0} (r : Result X E) (P Q R : Type 0) → (P → Q → R) → OnOk r P → OnOk r Q → OnOk r R
on_ok_both (Ok x) P Q R f p q = f p q
on_ok_both (Err e) P Q R f p q = q
