-- The first invariant that is refused has a counterexample that confirms, whatever it says.
use Rattle.std.proofs.Common.{◌≡◌, ℕ, suc, true, false, List, [], ◌∷◌, ◌++◌, length, refl, ap, ◌∙◌, subst, Some}
use Rattle.std.proofs.lemmas.List.{reverse-reverse}
use Rattle.update_model.specs.declared.op.Op.TheVariants.{Delete}
use Rattle.update_model.specs.Node.{NodeData}
use Rattle.schema.specs.declared.action.Action.TheVariants as action
use Rattle.table_model.specs.Visible.{Rules}
use Rattle.table_model.specs.Invariants.{Claim, Unique, UniqueKept, AtMost, Refers, Check, Match, Declared, invariants_of, claims_of}
use Rattle.confluence_laws.specs.Confluence.{accepts, are_accepted, breaks, confirms}
use Rattle.confluence_laws.specs.Examples.{row_numbered, one_after, after, chain, item_naming, path_from, path_items, shared_of, restrict_example, example_of}
use Rattle.schema.proofs.Soundness.{IsSound}
use Rattle.confluence_laws.proofs.Needed.{AreSampled}
use Rattle.confluence_laws.proofs.FirstRefused.{IsReady, first_ready, earlier_accepted, unique_confirms, at_most_confirms}
use Rattle.confluence_laws.proofs.RestrictRefused.{restrict_breaks}

module _ (rules : Rules) (sound : IsSound rules.tables) (samples : AreSampled rules) (earlier later : List Declared) (d : Declared) (e : invariants_of rules ≡ earlier ++ d ∷ later) (a : are_accepted rules earlier ≡ true) where
  restrict_confirms : (table column target : ℕ) → d.claim ≡ Refers table column target action.Restrict → accepts rules (Refers table column target action.Restrict) ≡ false
      → confirms rules (claims_of earlier) (Refers table column target action.Restrict) (restrict_example rules table column target) ≡ true
  restrict_confirms table column target is refused =
      let claim = Refers table column target action.Restrict in
      let ready : IsReady rules claim = subst (IsReady rules) is (first_ready rules sound earlier later d e a) in
      let steps = path_from rules (suc target) target in
      let shared = shared_of rules steps table column in
      let items = path_items rules shared steps in
      let left = after (length items) (suc (length items)) (item_naming rules shared table (Some column) (length items)) in
      let right = one_after (length items) (suc (suc (length items))) (Delete (row_numbered (suc (length shared)))) in
      ap (λ (l : List NodeData). breaks rules (claims_of earlier) claim l (left ∷ []) (right ∷ [])) (reverse-reverse (chain items))
      ∙ restrict_breaks rules sound samples table column target ready refused (claims_of earlier) (earlier_accepted rules sound earlier later d e a)

  by_claim : (claim : Claim) → d.claim ≡ claim → accepts rules claim ≡ false → confirms rules (claims_of earlier) claim (example_of rules claim) ≡ true
  by_claim (Unique table column) is h = unique_confirms rules sound samples earlier later d e a table column is
  by_claim (UniqueKept table column) is h = absurd (cc)
  by_claim (AtMost table count) is h = at_most_confirms rules sound samples earlier later d e a table count is
  by_claim (Refers table column target action.Restrict) is h = restrict_confirms table column target is h
  by_claim (Refers table column target action.Cascade) is h = absurd (cc)
  by_claim (Refers table column target action.SetNull) is h = absurd (cc)
  by_claim (Check table tree) is h = absurd (cc)
  by_claim (Match table rule) is h = absurd (cc)

  pub first_refused : accepts rules d.claim ≡ false → confirms rules (claims_of earlier) d.claim (example_of rules d.claim) ≡ true
  first_refused h = by_claim d.claim refl h
