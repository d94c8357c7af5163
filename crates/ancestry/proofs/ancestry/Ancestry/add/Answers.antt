use Rattle.std.proofs.Common.{◌≡◌, ◌<◌, ◌++◌, ◌∷◌, [], ◌∙◌, sym, ap, subst, length, List, All, ℕ}
use Rattle.update_model.specs.declared.limits.TheConstants.{MAX_MEMBERS}
use Rattle.ancestry.specs.declared.clock.Clock.{Clock}
use Rattle.ancestry.specs.Named.{AreNamers}
use Rattle.ancestry.proofs.Keeping.{kept_more}
use Rattle.ancestry.proofs.Naming.{named_push}
use Rattle.ancestry.proofs.Marking.{put_back}
use Rattle.ancestry.proofs.ancestry.Ancestry.add.Goals as goal

pub invariant_of-self-2 : goal.invariant_of-self-2
invariant_of-self-2 c =
    let clock : Clock = record { chain = c.join-chain.result; counts = c.merged-counts.result } in
    let members = c.self.inside.members.items in
    let old = c.self.inside.namers.items in
    let noted = c.note.new.namers in
    let a : c.push_reserved.new.self.items ≡ members ++ c.args.preds.now ∷ [] =
    c.push_reserved.ensures.items ∙ ap (λ (ms : List (List ℕ)). ms ++ c.from_vec-own.result ∷ []) c.in_ok-reserve.ensures.items
    ∙ ap (λ (ps : List ℕ). members ++ ps ∷ []) (c.from_vec-own.ensures ∙ c.in_ok-from_slice.ensures.items) in
    let b : c.push_reserved-2.new.self.items ≡ c.self.inside.clocks.items ++ clock ∷ [] = c.push_reserved-2.ensures.items ∙ ap (λ (cs : List Clock). cs ++ clock ∷ []) c.in_ok-reserve-2.ensures.items in
    let d : c.push_reserved-3.new.self.items ≡ noted ++ [] ∷ [] = c.push_reserved-3.ensures.items
    ∙ ap (λ (ns : List (List ℕ)). ns ++ c.new.result ∷ []) (put_back c.reserve-3.new.self.len noted c.reserve-3.new.self.items (c.note.auto.namers ∙ c.as_mut_slice.ensures.len))
    ∙ ap (λ (ns : List ℕ). noted ++ ns ∷ []) c.new.ensures in
    let lent : c.as_mut_slice.result.now ≡ old = c.as_mut_slice.ensures.value ∙ c.in_ok-reserve-3.ensures.items in
    let shown : c.as_slice-5.result.now ≡ members = c.as_slice-5.ensures.value ∙ c.in_ok-reserve.ensures.items in
    let last : c.len-position.result ≡ length members = c.len-position.ensures.value ∙ ap (length {A = List ℕ}) (sym c.self.view_is) in
    let own : All (λ p. p < length members) c.args.preds.now = subst (λ (g : List (List ℕ)). All (λ p. p < length g) c.args.preds.now) (sym c.self.view_is) c.requires.earlier in
    let room : length members < MAX_MEMBERS = subst (λ (g : List (List ℕ)). length g < MAX_MEMBERS) (sym c.self.view_is) c.requires.room in
    let called : AreNamers (members ++ c.args.preds.now ∷ []) (noted ++ [] ∷ []) =
    named_push members old noted c.args.preds.now c.self.invariant.lower own c.self.invariant.named (c.note.auto.namers ∙ ap (length {A = List ℕ}) lent) (rw lent at c.note.ensures.kept) (λ p e. rw (← last) (c.in_default.ensures.noted p e)) in
    rw (a, b, d) (kept_more members c.self.inside.clocks.items old (noted ++ [] ∷ []) c.self.inside.sizes c.count.new.sizes c.args.preds.now clock c.self.invariant called room own
    (rw c.as_slice-3.ensures.value at c.join-chain.ensures) (rw c.as_slice.ensures.value at c.merged-counts.ensures) (rw shown at c.count.ensures))
