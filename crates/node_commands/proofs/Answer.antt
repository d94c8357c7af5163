-- What a source has left has one answer to a command.
use Rattle.std.proofs.Common.{◌≡◌, inl, inr, ℕ, Bool, List, length, Option, None, Some, map, refl, sym, ap, subst, ◌∙◌, ◌&&◌, not, arith}
use Rattle.update_model.specs.declared.update_id.UpdateId.{UpdateId}
use Rattle.update_model.specs.Graph.{AreHeads, holds, names}
use Rattle.update_model.proofs.Heads.{sorted_same}
use Rattle.update_codec.specs.Parts.{entry_of}
use Rattle.update_model.specs.Rule.{RuleData}
use Rattle.update_stream.specs.declared.record_fault.RecordFault.{RecordFault}
use Rattle.update_stream.specs.Stream.{IsWhole, IsRefused}
use Rattle.update_stream.proofs.Good.{members_of}
use Rattle.bec_bytes.specs.Framed.{HoldsPiece, IsTooLong}
use Rattle.bec_bytes.proofs.Frames.{cut_or_held, cut_or_long, framed_some, long_or_held, one_piece}
use Rattle.schema_text.specs.declared.limits.TheConstants.{MAX_SCHEMA_BYTES}
use Rattle.row_check.specs.Checksum.{is_luhn}
use Rattle.schema_text.specs.Schemas.{Declares}
use Rattle.schema.specs.Data.{Meaning, SchemaData}
use Rattle.table_model.specs.Tables.{AreTablesOf}
use Rattle.outcomes.specs.declared.refusal.Refusal.{Refusal}
use Rattle.outcomes.specs.declared.refusal.Refusal.TheVariants.{Record}
use Rattle.node_commands.specs.Bundle.{DumpAnswer, dump_text, holds as holds_text, lacks, HoldsText, IsCutSchema, LacksText, RecordsAnswer, whole, stopped, TextAnswer, taken, refused as text_refused}
use Rattle.outcomes.specs.Rules.{nodes_of, rules_of}
use Rattle.node_commands.specs.Heads.{HeadsAnswer, done, refused}
use Rattle.outcomes.specs.Outcome.{Outcome, from_taking}
use Rattle.outcomes.specs.Texts.{printed}
use Rattle.schema_verdict.specs.Verdict.{confluent, refused as check_refused}
use Rattle.confluence_test.specs.Taking.{RefusesSchema, TakesSchema}
use Rattle.confluence_test.specs.declared.refusal.SchemaRefusal.{SchemaRefusal}
use Rattle.node_commands.specs.Verdict.{CheckAnswer}
use Rattle.node_commands.proofs.Tables.{TableLaws, tables_once}
use Rattle.outcomes.proofs.Same.{Same, same_prints, same_refused, IsOneAnswer}

pub heads_once : (members others : List (List ℕ)) (heads again : List UpdateId) → members ≡ others → AreHeads (map entry_of members) heads → AreHeads (map entry_of others) again → heads ≡ again
heads_once members others heads again same a b =
    sorted_same heads again a.rising b.rising (λ q.
    let here = a.exact q in
    let there = b.exact q in
    let moved = ap (λ (ms : List (List ℕ)). holds (map entry_of ms) q && not (names (map entry_of ms) q)) same in
    here ∙ moved ∙ sym there)

-- what is known of streams: a whole one has one graph, a refused one is refused once, and none is both
pub record StreamLaws : Type 0 where
  pub one_graph : (given : Option RuleData) (input : List ℕ) (members others : List (List ℕ)) → IsWhole given input members → IsWhole given input others → members ≡ others
  pub one_refusal : (given : Option RuleData) (input rest other : List ℕ) (m n : ℕ) (fault another : RecordFault)
      → IsRefused given input rest m fault → IsRefused given input other n another → (m ≡ n) × (fault ≡ another)
  pub whole_or_refused : (given : Option RuleData) (input rest : List ℕ) (members : List (List ℕ)) (n : ℕ) (fault : RecordFault)
      → IsWhole given input members → IsRefused given input rest n fault → ⊥

-- what is known of schemas: a text declares one, or is refused for one reason, and not both
pub record SchemaLaws : Type 0 where
  pub one_schema : (relation : Meaning) (text : List ℕ) (schema other : SchemaData) → Declares relation text schema → Declares relation text other → schema ≡ other
  pub taken_or_refused : (ask : Meaning) (text : List ℕ) (schema : SchemaData) (refusal : SchemaRefusal) → TakesSchema ask text schema → RefusesSchema ask text refusal → ⊥
  pub refused_once : (ask : Meaning) (text : List ℕ) (refusal other : SchemaRefusal) → RefusesSchema ask text refusal → RefusesSchema ask text other → refusal ≡ other

module _ (streams : StreamLaws) where
  same_stop : (given : Option RuleData) (input rest other : List ℕ) (m n : ℕ) (f g : RecordFault) → IsRefused given input rest m f → IsRefused given input other n g → Record m f ≡ Record n g
  same_stop given input rest other m n f g a b = let same = streams.one_refusal given input rest other m n f g a b in (λ i. Record (same.0 i) (same.1 i))

  heads_answered : (input : List ℕ) (after other : Option (List ℕ)) (a b : Outcome) → HeadsAnswer (Some input) after a → HeadsAnswer (Some input) other b → Same a b
  heads_answered input after other a b (done ms hs r h p) (done ns ks s k q) =
      same_prints a b (printed hs) (printed ks) (ap printed (heads_once ms ns hs ks (streams.one_graph None input ms ns r.2.0 s.2.0) h k)) p q
  heads_answered input after other a b (done ms hs r h p) (refused n g s f) = absurd (streams.whole_or_refused None input s.0 ms n g r.2.0 s.2)
  heads_answered input after other a b (refused n g s f) (done ms hs r h p) = absurd (streams.whole_or_refused None input s.0 ms n g r.2.0 s.2)
  heads_answered input after other a b (refused m f r e) (refused n g s h) = same_refused a b (Record m f) (Record n g) (same_stop None input r.0 s.0 m n f g r.2 s.2) e h

-- a text that is taken is not refused
pub not_both : SchemaLaws → (input t u : List ℕ) (schema : SchemaData) (why : SchemaRefusal) → t ≡ input → u ≡ input → TakesSchema is_luhn t schema → RefusesSchema is_luhn u why → ⊥
not_both laws input t u schema why here there takes refuses =
    laws.taken_or_refused is_luhn input schema why (subst (λ (w : List ℕ). TakesSchema is_luhn w schema) here takes) (subst (λ (w : List ℕ). RefusesSchema is_luhn w why) there refuses)

check_answered : SchemaLaws → (input : List ℕ) (after other : Option (List ℕ)) (a b : Outcome) → CheckAnswer (Some input) after a → CheckAnswer (Some input) other b → Same a b
check_answered laws input after other a b (confluent t x h take p) (confluent u y k takes q) = same_prints a b _ _ refl p q
check_answered laws input after other a b (confluent t x h take p) (check_refused u r k not f) = absurd (not_both laws input t u x r h.0 k.0 take not)
check_answered laws input after other a b (check_refused u r k not f) (confluent t x h take p) = absurd (not_both laws input t u x r h.0 k.0 take not)
check_answered laws input after other a b (check_refused t r h one e) (check_refused u s k two f) =
    let same : r ≡ s = laws.refused_once is_luhn input r s (subst (λ (w : List ℕ). RefusesSchema is_luhn w r) h.0 one) (subst (λ (w : List ℕ). RefusesSchema is_luhn w s) k.0 two) in
    same_refused a b (from_taking r) (from_taking s) (ap from_taking same) e f

-- ---- bundles

-- no input that begins with a schema ends inside it
cut_or_whole : (input declared more : List ℕ) → IsCutSchema input → HoldsPiece MAX_SCHEMA_BYTES input declared more → ⊥
cut_or_whole input declared more (inl none) h = framed_some declared more (sym none ∙ h.parts)
cut_or_whole input declared more (inr cut) h = cut_or_held MAX_SCHEMA_BYTES input declared more (omega arith) cut h

-- nor is it too long
cut_or_over : (input : List ℕ) → IsCutSchema input → IsTooLong MAX_SCHEMA_BYTES input → ⊥
cut_or_over input (inl none) over = let size = ap length none in let four = over.whole in omega (arith, size, four)
cut_or_over input (inr cut) over = cut_or_long MAX_SCHEMA_BYTES input cut over

lacks_once : (input : List ℕ) (after other : Option (List ℕ)) (r s : Refusal) → LacksText (Some input) after r → LacksText (Some input) other s → r ≡ s
lacks_once input after other r s (inl a) (inl b) = a.1 ∙ sym b.1
lacks_once input after other r s (inl a) (inr b) = absurd (cut_or_over input a.0.2.0 b.0.2.0)
lacks_once input after other r s (inr a) (inl b) = absurd (cut_or_over input b.0.2.0 a.0.2.0)
lacks_once input after other r s (inr a) (inr b) = a.1 ∙ sym b.1

lacks_or_holds : (input declared : List ℕ) (after mid : Option (List ℕ)) (r : Refusal) → LacksText (Some input) after r → HoldsText (Some input) mid declared → ⊥
lacks_or_holds input declared after mid r (inl a) h = cut_or_whole input declared h.1.0 a.0.2.0 h.1.2
lacks_or_holds input declared after mid r (inr a) h = long_or_held MAX_SCHEMA_BYTES input declared h.1.0 (omega arith) a.0.2.0 h.1.2

module _ (streams : StreamLaws) (schemas : SchemaLaws) (laws : TableLaws) (json : Bool) where
  records_answered : (schema : SchemaData) (more : List ℕ) (after other : Option (List ℕ)) (a b : Outcome) → RecordsAnswer json schema (Some more) after a → RecordsAnswer json schema (Some more) other b → Same a b
  records_answered schema more after other a b (whole ms t r tables p) (whole ns u s others q) =
      let same : ms ≡ ns = streams.one_graph (Some schema.rule) more ms ns r.2.0 s.2.0 in
      let here = tables (members_of schema.rule more ms r.2.0) in
      let there = others (members_of schema.rule more ns s.2.0) in
      let moved : AreTablesOf (rules_of schema) (nodes_of ns) here.0 here.1.0 = subst (λ (xs : List (List ℕ)). AreTablesOf (rules_of schema) (nodes_of xs) here.0 here.1.0) same here.1.1.are in
      let one = tables_once laws schema ns here.0 there.0 here.1.0 there.1.0 there.1.1.taken.closed moved there.1.1.are in
      let line : t ≡ u = here.1.2 ∙ (λ i. dump_text json schema (one.0 i) (one.1 i)) ∙ sym there.1.2 in
      same_prints a b t u line p q
  records_answered schema more after other a b (whole ms t r tables p) (stopped n g s f) = absurd (streams.whole_or_refused (Some schema.rule) more s.0 ms n g r.2.0 s.2)
  records_answered schema more after other a b (stopped n g s f) (whole ms t r tables p) = absurd (streams.whole_or_refused (Some schema.rule) more s.0 ms n g r.2.0 s.2)
  records_answered schema more after other a b (stopped m f r e) (stopped n g s h) =
      same_refused a b (Record m f) (Record n g) (same_stop streams (Some schema.rule) more r.0 s.0 m n f g r.2 s.2) e h

  text_answered : (declared more : List ℕ) (after other : Option (List ℕ)) (a b : Outcome) → TextAnswer json declared (Some more) after a → TextAnswer json declared (Some more) other b → Same a b
  text_answered declared more after other a b (taken x t r) (taken y u s) =
      let same : x ≡ y = schemas.one_schema is_luhn declared x y t.declares u.declares in
      records_answered y more after other a b (subst (λ (z : SchemaData). RecordsAnswer json z (Some more) after a) same r) s
  text_answered declared more after other a b (taken x t r) (text_refused s not same f) = absurd (schemas.taken_or_refused is_luhn declared x s t not)
  text_answered declared more after other a b (text_refused s not same f) (taken x t r) = absurd (schemas.taken_or_refused is_luhn declared x s t not)
  text_answered declared more after other a b (text_refused r one same e) (text_refused s two again f) = same_refused a b (from_taking r) (from_taking s) (ap from_taking (schemas.refused_once is_luhn declared r s one two)) e f

  held_answered : (input d e : List ℕ) (m n after other : Option (List ℕ)) (a b : Outcome) → HoldsText (Some input) m d → HoldsText (Some input) n e → TextAnswer json d m after a → TextAnswer json e n other b → Same a b
  held_answered input d e m n after other a b h i t u =
      let same = one_piece MAX_SCHEMA_BYTES input d e h.1.0 i.1.0 (omega arith) h.1.2 i.1.2 in
      let mid : m ≡ Some i.1.0 = h.1.1 ∙ ap Some same.1 in
      let here : TextAnswer json e m after a = subst (λ (w : List ℕ). TextAnswer json w m after a) same.0 t in
      text_answered e i.1.0 after other a b (subst (λ (w : Option (List ℕ)). TextAnswer json e w after a) mid here) (subst (λ (w : Option (List ℕ)). TextAnswer json e w other b) i.1.1 u)

  dump_answered : (input : List ℕ) (after other : Option (List ℕ)) (a b : Outcome) → DumpAnswer json (Some input) after a → DumpAnswer json (Some input) other b → Same a b
  dump_answered input after other a b (holds_text d m h t) (holds_text e n i u) = held_answered input d e m n after other a b h i t u
  dump_answered input after other a b (holds_text d m h t) (lacks r l e) = absurd (lacks_or_holds input d other m r l h)
  dump_answered input after other a b (lacks r l e) (holds_text d m h t) = absurd (lacks_or_holds input d after m r l h)
  dump_answered input after other a b (lacks r l e) (lacks s k f) = same_refused a b r s (lacks_once input after other r s l k) e f

-- so it is of each command
pub record OneAnswer : Type 0 where
  pub heads : IsOneAnswer HeadsAnswer
  pub check : IsOneAnswer CheckAnswer
  pub dump : (json : Bool) → IsOneAnswer (DumpAnswer json)

pub answered : StreamLaws → SchemaLaws → TableLaws → OneAnswer
answered streams schemas laws = record { heads = heads_answered streams; check = check_answered schemas; dump = dump_answered streams schemas laws }
