-- Lines lead to one draft at most, or to one fault.
use Rattle.std.proofs.Common.{◌≡◌, ℕ, ◌+◌, List, [], ◌∷◌, sym, ◌∙◌, ap, subst, arith, inl, inr}
use Rattle.std.specs.Prelude.{Some}
use Rattle.text_words.specs.Lines.{lines_of}
use Rattle.text_words.specs.Words.{skip_blanks}
use Rattle.expression_text.specs.Grammar.{Parses, Disjunction}
use Rattle.expression_text.specs.Columns.{column_in}
use Rattle.row_check.specs.Trees.{Tree}
use Rattle.expression_text.specs.declared.token.Token.{Token}
use Rattle.schema_text.specs.declared.draft.Draft.{Draft}
use Rattle.schema_text.specs.declared.fault.SchemaKind.{SchemaKind}
use Rattle.schema_text.specs.declared.form.Form.{Form}
use Rattle.schema_text.specs.declared.form.Form.TheVariants as form
use Rattle.schema.specs.declared.column.Column.{Column}
use Rattle.schema.specs.Columns.{names_of}
use Rattle.schema_text.specs.Drafts.{start}
use Rattle.schema_text.specs.Forms.{form_at}
use Rattle.schema_text.specs.Steps.{IsAfter, with_check}
use Rattle.schema.specs.Data.{Meaning, SchemaData}
use Rattle.schema_text.specs.Schemas.{IsItsTurn, IsGood, Leads, LeadOn, FormFault, LineFault, IsComplete, FaultIn, Declares, FirstFault, schema_of}
use Rattle.schema_text.proofs.FaultKinds.{one_kind, none_if_good}

-- Tokens are one expression at most.
abbrev pub OneExpression : Type 0
OneExpression = (column_of : List ℕ → ℕ) (tokens : List Token) (a b : Tree) → Parses column_of Disjunction tokens a → Parses column_of Disjunction tokens b → a ≡ b

pub one_form : (d : Draft) (line : List ℕ) (f g : Form) → IsItsTurn d line f → IsItsTurn d line g → f ≡ g
one_form d line f g a b =
    let x : form_at (skip_blanks line) ≡ Some f = a.written.words in
    let y : form_at (skip_blanks line) ≡ Some g = b.written.words in
    cc

pub one_after : (one : OneExpression) (n : ℕ) (d : Draft) (f : Form) (a b : Draft) → IsAfter n d f a → IsAfter n d f b → a ≡ b
one_after one n d (form.Database name) a b h k = h ∙ sym k
one_after one n d (form.Author key) a b h k = h ∙ sym k
one_after one n d (form.Table name deletable owned) a b h k = h ∙ sym k
one_after one n d (form.Column name kind null) a b h k = h ∙ sym k
one_after one n d (form.Ref name table act null) a b h k = h ∙ sym k
one_after one n d (form.Check tokens) a b h k =
    let same = one (column_in (names_of d.table.columns)) tokens h.0 k.0 h.1 k.1 in
    h.2 ∙ ap (λ (t : Tree). with_check n d t) same ∙ sym k.2
one_after one n d (form.Match column cmp reference target) a b h k = h ∙ sym k
one_after one n d (form.Unique column keeps) a b h k = h ∙ sym k
one_after one n d (form.AtMost count) a b h k = h ∙ sym k
one_after one n d (form.Sample values) a b h k = h ∙ sym k

pub leads_one : (one : OneExpression) (r : Meaning) (n : ℕ) (d : Draft) (line : List ℕ) (a b : Draft) → Leads r n d line a → Leads r n d line b → a ≡ b
leads_one one r n d line a b (inl h) (inl k) = h.1 ∙ sym k.1
leads_one one r n d line a b (inl h) (inr k) = absurd (k.1.says h.0.empty)
leads_one one r n d line a b (inr h) (inl k) = absurd (h.1.says k.0.empty)
leads_one one r n d line a b (inr h) (inr k) =
    one_after one n d k.0 a b (subst (λ (f : Form). IsAfter n d f a) (one_form d line h.0 k.0 h.1 k.1) h.3) k.3

pub lead_one : (one : OneExpression) (r : Meaning) (n : ℕ) (d : Draft) (lines : List (List ℕ)) (a b : Draft) → LeadOn r n d lines a → LeadOn r n d lines b → a ≡ b
lead_one one r n d [] a b h k = h ∙ sym k
lead_one one r n d (line ∷ lines) a b h k =
    lead_one one r (n + 1) k.0 lines a b (subst (λ (e : Draft). LeadOn r (n + 1) e lines a) (leads_one one r n d line h.0 k.0 h.1 k.1) h.2) k.2

-- a line that leads on has no fault
pub leads_good : (r : Meaning) (n : ℕ) (d : Draft) (line : List ℕ) (next : Draft) (k : SchemaKind) → Leads r n d line next → LineFault r d line k → ⊥
leads_good r n d line next k (inl h) (inl a) = a.1 h.0
leads_good r n d line next k (inl h) (inr a) = a.1.says h.0.empty
leads_good r n d line next k (inr h) (inl a) = a.2 h.0 h.1
leads_good r n d line next k (inr h) (inr a) =
    none_if_good r d a.0 k (subst (λ (f : Form). IsGood r d f) (one_form d line h.0 a.0 h.1 a.1) h.2) a.2

pub line_one : (r : Meaning) (d : Draft) (line : List ℕ) (k l : SchemaKind) → LineFault r d line k → LineFault r d line l → k ≡ l
line_one r d line k l (inl a) (inl b) = a.0 ∙ sym b.0
line_one r d line k l (inl a) (inr b) = absurd (a.2 b.0 b.1)
line_one r d line k l (inr a) (inl b) = absurd (b.2 a.0 a.1)
line_one r d line k l (inr a) (inr b) =
    one_kind r d b.0 k l (subst (λ (f : Form). FormFault r d f k) (one_form d line a.0 b.0 a.1 b.1) a.2) b.2

pub fault_one : (one : OneExpression) (r : Meaning) (n : ℕ) (d : Draft) (lines : List (List ℕ)) (k l : SchemaKind) (p q : ℕ) → FaultIn r n d lines k p → FaultIn r n d lines l q → (k ≡ l) × (p ≡ q)
fault_one one r n d [] k l p q a b = (a.1 ∙ sym b.1, a.2 ∙ sym b.2)
fault_one one r n d (line ∷ lines) k l p q (inl a) (inl b) = (line_one r d line k l a.0 b.0, a.1 ∙ sym b.1)
fault_one one r n d (line ∷ lines) k l p q (inl a) (inr b) = absurd (leads_good r n d line b.0 k b.1 a.0)
fault_one one r n d (line ∷ lines) k l p q (inr a) (inl b) = absurd (leads_good r n d line a.0 l a.1 b.0)
fault_one one r n d (line ∷ lines) k l p q (inr a) (inr b) =
    fault_one one r (n + 1) b.0 lines k l p q (subst (λ (e : Draft). FaultIn r (n + 1) e lines k p) (leads_one one r n d line a.0 b.0 a.1 b.1) a.2) b.2

-- lines that lead to a complete draft have no fault
pub no_fault_in : (one : OneExpression) (r : Meaning) (n : ℕ) (d : Draft) (lines : List (List ℕ)) (end : Draft) (k : SchemaKind) (p : ℕ) → LeadOn r n d lines end → IsComplete end → FaultIn r n d lines k p → ⊥
no_fault_in one r n d [] end k p h c a = a.0 (subst (λ (e : Draft). IsComplete e) h c)
no_fault_in one r n d (line ∷ lines) end k p h c (inl a) = leads_good r n d line h.0 k h.1 a.0
no_fault_in one r n d (line ∷ lines) end k p h c (inr a) =
    no_fault_in one r (n + 1) a.0 lines end k p (subst (λ (e : Draft). LeadOn r (n + 1) e lines end) (leads_one one r n d line h.0 a.0 h.1 a.1) h.2) c a.2

pub schema_one : (one : OneExpression) (r : Meaning) (text : List ℕ) (s t : SchemaData) → Declares r text s → Declares r text t → s ≡ t
schema_one one r text s t h k = h.1.3 ∙ ap (λ (e : Draft). schema_of e text) (lead_one one r 1 start (lines_of text) h.1.0 k.1.0 h.1.1 k.1.1) ∙ sym k.1.3

pub first_one : (one : OneExpression) (r : Meaning) (text : List ℕ) (k l : SchemaKind) (p q : ℕ) → FirstFault r text k p → FirstFault r text l q → (k ≡ l) × (p ≡ q)
first_one one r text k l p q (inl a) (inl b) = (a.1 ∙ sym b.1, a.2 ∙ sym b.2)
first_one one r text k l p q (inl a) (inr b) = absurd (omega (arith, a.0, b.0))
first_one one r text k l p q (inr a) (inl b) = absurd (omega (arith, a.0, b.0))
first_one one r text k l p q (inr a) (inr b) = fault_one one r 1 start (lines_of text) k l p q a.1 b.1

pub declared_no_fault : (one : OneExpression) (r : Meaning) (text : List ℕ) (s : SchemaData) (k : SchemaKind) (p : ℕ) → Declares r text s → FirstFault r text k p → ⊥
declared_no_fault one r text s k p h (inl a) = omega (arith, a.0, h.0)
declared_no_fault one r text s k p h (inr a) = no_fault_in one r 1 start (lines_of text) h.1.0 k p h.1.1 h.1.2 a.1
