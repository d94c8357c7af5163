-- A line of one form has one kind of fault, and none where nothing is wrong with it.
use Rattle.std.proofs.Common.{◌≡◌, refl}
use Rattle.schema_text.specs.declared.draft.Draft.{Draft}
use Rattle.schema_text.specs.declared.fault.SchemaKind.{SchemaKind}
use Rattle.schema_text.specs.declared.fault.SchemaKind.TheVariants as fault
use Rattle.schema_text.specs.declared.form.Form.{Form}
use Rattle.schema.specs.Data.{Meaning}
use Rattle.schema_text.specs.Schemas.{FormFault, IsGood}

pub one_kind : (r : Meaning) (d : Draft) (f : Form) (k l : SchemaKind) → FormFault r d f k → FormFault r d f l → k ≡ l
one_kind r d f fault.Line fault.Line a b = absurd a
one_kind r d f fault.Line fault.Name a b = absurd a
one_kind r d f fault.Line fault.WrongType a b = absurd a
one_kind r d f fault.Line fault.Target a b = absurd a
one_kind r d f fault.Line fault.MatchKind a b = absurd a
one_kind r d f fault.Line fault.BadSample a b = absurd a
one_kind r d f fault.Line fault.Limit a b = absurd a
one_kind r d f fault.Name fault.Line a b = absurd b
one_kind r d f fault.Name fault.Name a b = refl
one_kind r d f fault.Name fault.WrongType a b = absurd (a.1 b.1)
one_kind r d f fault.Name fault.Target a b = absurd (a.1 b.1)
one_kind r d f fault.Name fault.MatchKind a b = absurd (a.1 b.1)
one_kind r d f fault.Name fault.BadSample a b = absurd (a.1 b.1)
one_kind r d f fault.Name fault.Limit a b = absurd (b a.0)
one_kind r d f fault.WrongType fault.Line a b = absurd b
one_kind r d f fault.WrongType fault.Name a b = absurd (b.1 a.1)
one_kind r d f fault.WrongType fault.WrongType a b = refl
one_kind r d f fault.WrongType fault.Target a b = absurd (b.2 a.2)
one_kind r d f fault.WrongType fault.MatchKind a b = absurd (a.3 b.3)
one_kind r d f fault.WrongType fault.BadSample a b = absurd (a.3 b.3)
one_kind r d f fault.WrongType fault.Limit a b = absurd (b a.0)
one_kind r d f fault.Target fault.Line a b = absurd b
one_kind r d f fault.Target fault.Name a b = absurd (b.1 a.1)
one_kind r d f fault.Target fault.WrongType a b = absurd (a.2 b.2)
one_kind r d f fault.Target fault.Target a b = refl
one_kind r d f fault.Target fault.MatchKind a b = absurd (a.2 b.2)
one_kind r d f fault.Target fault.BadSample a b = absurd (a.2 b.2)
one_kind r d f fault.Target fault.Limit a b = absurd (b a.0)
one_kind r d f fault.MatchKind fault.Line a b = absurd b
one_kind r d f fault.MatchKind fault.Name a b = absurd (b.1 a.1)
one_kind r d f fault.MatchKind fault.WrongType a b = absurd (b.3 a.3)
one_kind r d f fault.MatchKind fault.Target a b = absurd (b.2 a.2)
one_kind r d f fault.MatchKind fault.MatchKind a b = refl
one_kind r d f fault.MatchKind fault.BadSample a b = absurd (a.4 b.4)
one_kind r d f fault.MatchKind fault.Limit a b = absurd (b a.0)
one_kind r d f fault.BadSample fault.Line a b = absurd b
one_kind r d f fault.BadSample fault.Name a b = absurd (b.1 a.1)
one_kind r d f fault.BadSample fault.WrongType a b = absurd (b.3 a.3)
one_kind r d f fault.BadSample fault.Target a b = absurd (b.2 a.2)
one_kind r d f fault.BadSample fault.MatchKind a b = absurd (b.4 a.4)
one_kind r d f fault.BadSample fault.BadSample a b = refl
one_kind r d f fault.BadSample fault.Limit a b = absurd (b a.0)
one_kind r d f fault.Limit fault.Line a b = absurd b
one_kind r d f fault.Limit fault.Name a b = absurd (a b.0)
one_kind r d f fault.Limit fault.WrongType a b = absurd (a b.0)
one_kind r d f fault.Limit fault.Target a b = absurd (a b.0)
one_kind r d f fault.Limit fault.MatchKind a b = absurd (a b.0)
one_kind r d f fault.Limit fault.BadSample a b = absurd (a b.0)
one_kind r d f fault.Limit fault.Limit a b = refl

pub none_if_good : (r : Meaning) (d : Draft) (f : Form) (k : SchemaKind) → IsGood r d f → FormFault r d f k → ⊥
none_if_good r d f fault.Line g a = a
none_if_good r d f fault.Name g a = a.1 g.names
none_if_good r d f fault.WrongType g a = a.3 g.types
none_if_good r d f fault.Target g a = a.2 g.target
none_if_good r d f fault.MatchKind g a = a.4 g.matchable
none_if_good r d f fault.BadSample g a = a.5 g.sample
none_if_good r d f fault.Limit g a = a g.limits
