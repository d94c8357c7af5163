-- A stream has one reading.
use Rattle.std.proofs.Common.{◌≡◌, ℕ, Bool, true, false, ◌⊎◌, inl, inr, ◌≤◌, ◌<◌, ◌+◌, not, List, [], ◌∷◌, ◌++◌, length, refl, sym, ap, subst, ◌∙◌, append-nil, append_assoc, length-append, map, All, Option, None, arith}
use Rattle.std.proofs.lemmas.List.Elements.{All-head, All-tail}
use Rattle.std.specs.Prelude.{find}
use Rattle.update_model.specs.declared.update_id.UpdateId.{UpdateId}
use Rattle.update_model.specs.Entry.{Entry}
use Rattle.update_model.specs.Rule.{RuleData}
use Rattle.update_model.specs.Graph.{holds, IsNext, IsClosed, is_within}
use Rattle.update_model.proofs.Closed.{Follows-split}
use Rattle.bec_bytes.specs.Framed.{stream_of, HoldsPiece}
use Rattle.bec_bytes.proofs.Frames.{framed_some, one_piece, no_cut, cut_or_held, long_or_held, cut_or_long, Fit, GoesOn, lines_up}
use Rattle.update_codec.specs.declared.limits.TheConstants.{UPDATE_LIMIT}
use Rattle.update_codec.specs.Parts.{id_of, entry_of}
use Rattle.update_codec.specs.declared.codec_fault.CodecKind.{CodecKind}
use Rattle.update_codec.specs.declared.codec_fault.CodecFault.{CodecFault}
use Rattle.update_check.specs.declared.check_error.CheckFault.{CheckFault}
use Rattle.update_check.specs.declared.check_error.CheckFault.TheVariants.{Codec, WrongDatabase, AuthorNotListed, BadSignature}
use Rattle.update_check.specs.Signed.{IsChecked}
use Rattle.update_check.specs.Causes.{IsCause}
use Rattle.update_check.proofs.Fronts.{is_within-front}
use Rattle.update_stream.specs.declared.record_fault.RecordFault.{RecordFault}
use Rattle.update_stream.specs.declared.record_fault.RecordFault.TheVariants.{Check, Lacks, Full}
use Rattle.update_stream.specs.declared.stream.TheConstants.{MAX_RECORDS}
use Rattle.update_stream.specs.Stream.{has_id, firsts_after, firsts, graph_of, rule_of, AreGood, IsWhole, IsCut, short, too_long, IsCutAs, LacksPredecessor, PassesLimit, HasFault, IsStop, IsRefused}
use Rattle.update_stream.proofs.Firsts.{graph_of-append, holds-graph_of}
use Rattle.update_stream.proofs.Good.{rule_of-longer}

-- bytes are refused under a rule for one cause
abbrev pub OneCause : Type 0
OneCause = (rule : RuleData) (bytes : List ℕ) (fault other : CheckFault) → IsCause rule bytes fault → IsCause rule bytes other → fault ≡ other

-- what is checked is not refused
abbrev pub NoCause : Type 0
NoCause = (rule : RuleData) (bytes : List ℕ) (fault : CheckFault) → IsCause rule bytes fault → IsChecked rule bytes → ⊥

checked_short : (rule : RuleData) (r : List ℕ) → IsChecked rule r → length r ≤ UPDATE_LIMIT
checked_short rule r checked = checked.1.spells.short

AreGood-fit : (given : Option RuleData) (records : List (List ℕ)) → AreGood given records → Fit records
AreGood-fit given records good = λ k e low. let short = checked_short (rule_of given records) _ (good.accepted k e low) in omega (arith, short)

-- ---- nothing is refused where a good list goes on

-- what a longer good list says of the record that stands next after a shorter one
pub record IsGoodNext (given : Option RuleData) (records : List (List ℕ)) (r : List ℕ) : Type 0 where
  pub few : length records < MAX_RECORDS
  pub accepted : IsChecked (rule_of given (records ++ r ∷ [])) r
  pub known_or_next : (holds (graph_of records) (id_of r) ≡ true) ⊎ (IsNext (graph_of records) (entry_of r) × (is_within (graph_of records ++ entry_of r ∷ []) ≡ true))

next_of_longer : (records : List (List ℕ)) (r : List ℕ) (more : List (List ℕ)) → IsClosed (graph_of (records ++ r ∷ more)) → is_within (graph_of (records ++ r ∷ more)) ≡ true
    → (holds (graph_of records) (id_of r) ≡ true) ⊎ (IsNext (graph_of records) (entry_of r) × (is_within (graph_of records ++ entry_of r ∷ []) ≡ true))
next_of_longer records r more closed within = by_case (has_id records r) refl
  where
    by_case : (b : Bool) → has_id records r ≡ b
        → (holds (graph_of records) (id_of r) ≡ true) ⊎ (IsNext (graph_of records) (entry_of r) × (is_within (graph_of records ++ entry_of r ∷ []) ≡ true))
    by_case true e = inl (holds-graph_of (id_of r) records ∙ e)
    by_case false e =
        let longer : graph_of (records ++ r ∷ more) ≡ graph_of records ++ entry_of r ∷ map entry_of (firsts_after (records ++ r ∷ []) more) = graph_of-append records (r ∷ more) ∙ rw e refl in
        let follows = Follows-split [] (graph_of records) (entry_of r ∷ map entry_of (firsts_after (records ++ r ∷ []) more)) (subst IsClosed longer closed) in
        let all : is_within ((graph_of records ++ entry_of r ∷ []) ++ map entry_of (firsts_after (records ++ r ∷ []) more)) ≡ true =
        ap is_within (append_assoc (graph_of records) (entry_of r ∷ []) (map entry_of (firsts_after (records ++ r ∷ []) more))) ∙ sym (ap is_within longer) ∙ within in
        inr (follows.0, is_within-front (graph_of records ++ entry_of r ∷ []) (map entry_of (firsts_after (records ++ r ∷ []) more)) all)

-- the elements of a longer list
All-back : {X : Type 0} (P : X → Type 0) (xs ys : List X) → All P (xs ++ ys) → All P ys
All-back P [] ys a = a
All-back P (x ∷ xs) ys a = All-back P xs ys (All-tail P x (xs ++ ys) a)

pub goes_on_good : (given : Option RuleData) (records others : List (List ℕ)) (rest : List ℕ) → AreGood given others → (g : GoesOn records others rest) → IsGoodNext given records g.next
goes_on_good given records others rest good g =
    let longer : AreGood given (records ++ g.next ∷ g.more) = subst (λ (t : List (List ℕ)). AreGood given t) g.parts good in
    let P : RuleData → Type 0 = λ rule. IsChecked rule g.next in
    let all = IsChecked (rule_of given (records ++ g.next ∷ g.more)) in
    let few = longer.few in
    record {
      few = omega (arith, length-append records (g.next ∷ g.more));
      accepted = subst P (rule_of-longer given records g.next g.more) (All-head all g.next g.more (All-back all records (g.next ∷ g.more) longer.accepted));
      known_or_next = next_of_longer records g.next g.more longer.closed longer.within;
    }

-- where all are held, none is lacking
none_lacking : (graph : List Entry) (preds : List UpdateId) → All (λ p. holds graph p ≡ true) preds → find (λ p. not (holds graph p)) preds ≡ None
none_lacking graph [] held = refl
none_lacking graph (p ∷ ps) held = rw (All-head (λ q. holds graph q ≡ true) p ps held) (none_lacking graph ps (All-tail (λ q. holds graph q ≡ true) p ps held))

held_and_lacks : (graph : List Entry) (e : Entry) (id : UpdateId) → (holds graph e.id ≡ true) ⊎ (IsNext graph e × (is_within (graph ++ e ∷ []) ≡ true)) → LacksPredecessor graph e id → ⊥
held_and_lacks graph e id (inl held) lacks = let new = lacks.new in cc
held_and_lacks graph e id (inr next) lacks = let none = none_lacking graph e.preds next.0.preds in let first = lacks.first in cc

held_and_passes : (graph : List Entry) (e : Entry) → (holds graph e.id ≡ true) ⊎ (IsNext graph e × (is_within (graph ++ e ∷ []) ≡ true)) → PassesLimit graph e → ⊥
held_and_passes graph e (inl held) passes = let new = passes.new in cc
held_and_passes graph e (inr next) passes = let over = passes.over in let under = next.1 in cc

-- two records that the same bytes begin with are one
one_held : (bytes r s rest other : List ℕ) → HoldsPiece UPDATE_LIMIT bytes r rest → HoldsPiece UPDATE_LIMIT bytes s other → r ≡ s
one_held bytes r s rest other a b = (one_piece UPDATE_LIMIT bytes r s rest other (omega arith) a b).0

-- a cut record is no whole one
cut_or_whole : (bytes r rest other : List ℕ) (fault : CheckFault) → IsCutAs bytes rest fault → HoldsPiece UPDATE_LIMIT bytes r other → ⊥
cut_or_whole bytes r rest other (Codec fault) cut begins = by_kind fault.kind fault.place cut
  where
    by_kind : (kind : CodecKind) (place : ℕ) → IsCut bytes rest kind place → ⊥
    by_kind kind place (short came is) = cut_or_held UPDATE_LIMIT bytes r other (omega arith) is.0 begins
    by_kind kind place (too_long is) = long_or_held UPDATE_LIMIT bytes r other (omega arith) is.0 begins
cut_or_whole bytes r rest other WrongDatabase cut begins = absurd cut
cut_or_whole bytes r rest other AuthorNotListed cut begins = absurd cut
cut_or_whole bytes r rest other BadSignature cut begins = absurd cut

-- a fault of what stands next is none of a checked update that stands there
cause_or_accepted : NoCause → (given : Option RuleData) (records : List (List ℕ)) (bytes r rest other : List ℕ) (fault : CheckFault) → HasFault given records bytes rest (Check fault) → HoldsPiece UPDATE_LIMIT bytes r other
    → IsChecked (rule_of given (records ++ r ∷ [])) r → ⊥
cause_or_accepted none given records bytes r rest other fault (inl cut) begins accepted = cut_or_whole bytes r rest other fault cut begins
cause_or_accepted none given records bytes r rest other fault (inr f) begins accepted =
    let P : List ℕ → Type 0 = λ w. IsChecked (rule_of given (records ++ w ∷ [])) w in
    none (rule_of given (records ++ f.0 ∷ [])) f.0 fault f.2 (subst P (one_held bytes r f.0 other rest begins f.1) accepted)

good_or_fault : NoCause → (given : Option RuleData) (records : List (List ℕ)) (bytes r rest other : List ℕ) (fault : RecordFault) → IsGoodNext given records r → HoldsPiece UPDATE_LIMIT bytes r other
    → HasFault given records bytes rest fault → ⊥
good_or_fault none given records bytes r rest other (Check fault) good begins f = cause_or_accepted none given records bytes r rest other fault f begins good.accepted
good_or_fault none given records bytes r rest other (Lacks id) good begins f =
    let P : List ℕ → Type 0 = λ w. LacksPredecessor (graph_of records) (entry_of w) id in
    held_and_lacks (graph_of records) (entry_of r) id good.known_or_next (subst P (one_held bytes f.0 r rest other f.1.begins begins) f.2)
good_or_fault none given records bytes r rest other Full good begins f =
    let P : List ℕ → Type 0 = λ w. PassesLimit (graph_of records) (entry_of w) in
    held_and_passes (graph_of records) (entry_of r) good.known_or_next (subst P (one_held bytes f.0 r rest other f.1.begins begins) f.2)

pub good_or_stop : NoCause → (given : Option RuleData) (records others : List (List ℕ)) (bytes rest : List ℕ) (fault : RecordFault) → AreGood given others
    → GoesOn records others bytes → IsStop given records bytes rest fault → ⊥
good_or_stop none given records others bytes rest fault more g (inl stop) =
    let next = goes_on_good given records others bytes more g in
    good_or_fault none given records bytes g.next rest g.tail fault next (record { short = checked_short (rule_of given (records ++ g.next ∷ [])) g.next next.accepted; parts = g.begins }) stop.1
good_or_stop none given records others bytes rest fault more g (inr stop) =
    let next = goes_on_good given records others bytes more g in
    absurd (let few = next.few in omega (arith, few, stop.0))

-- nothing is refused at the end of input
no_cut_as : (rest : List ℕ) (fault : CheckFault) → IsCutAs [] rest fault → ⊥
no_cut_as rest (Codec fault) cut = by_kind fault.kind fault.place cut
  where
    by_kind : (kind : CodecKind) (place : ℕ) → IsCut [] rest kind place → ⊥
    by_kind kind place (short came is) = no_cut is.0
    by_kind kind place (too_long is) = let four = is.0.whole in absurd (omega (arith, four))
no_cut_as rest WrongDatabase cut = absurd cut
no_cut_as rest AuthorNotListed cut = absurd cut
no_cut_as rest BadSignature cut = absurd cut

nothing_begins : (r rest : List ℕ) → HoldsPiece UPDATE_LIMIT [] r rest → ⊥
nothing_begins r rest b = framed_some r rest b.parts

no_fault_at_end : (given : Option RuleData) (records : List (List ℕ)) (rest : List ℕ) (fault : RecordFault) → HasFault given records [] rest fault → ⊥
no_fault_at_end given records rest (Check fault) (inl cut) = no_cut_as rest fault cut
no_fault_at_end given records rest (Check fault) (inr f) = nothing_begins f.0 rest f.1
no_fault_at_end given records rest (Lacks id) f = nothing_begins f.0 rest f.1.begins
no_fault_at_end given records rest Full f = nothing_begins f.0 rest f.1.begins

no_stop_at_end : (given : Option RuleData) (records : List (List ℕ)) (rest : List ℕ) (fault : RecordFault) → IsStop given records [] rest fault → ⊥
no_stop_at_end given records rest fault (inl stop) = no_fault_at_end given records rest fault stop.1
no_stop_at_end given records rest fault (inr stop) = absurd (omega (arith, stop.1))

ends : (input : List ℕ) (records : List (List ℕ)) → input ≡ stream_of records → stream_of records ++ [] ≡ input
ends input records e = append-nil (stream_of records) ∙ sym e

no_more : (records others : List (List ℕ)) → GoesOn records others [] → ⊥
no_more records others g = framed_some g.next g.tail g.begins

pub whole_once : (given : Option RuleData) (input : List ℕ) (members others : List (List ℕ)) → IsWhole given input members → IsWhole given input others → members ≡ others
whole_once given input members others a b =
    let xs = a.0 in
    let ys = b.0 in
    let one = lines_up xs ys [] [] (AreGood-fit given xs a.1) (AreGood-fit given ys b.1) (ends input xs a.2 ∙ sym (ends input ys b.2)) in
    elim one [
      | inl g ↦ absurd (no_more xs ys g)
      | inr more ↦ elim more [
        | inl g ↦ absurd (no_more ys xs g)
        | inr same ↦ a.3 ∙ ap firsts same.0 ∙ sym b.3
      ]
    ]

pub whole_and_refused : NoCause → (given : Option RuleData) (input rest : List ℕ) (members : List (List ℕ)) (n : ℕ) (fault : RecordFault) → IsWhole given input members → IsRefused given input rest n fault → ⊥
whole_and_refused none given input rest members n fault a b =
    let xs = a.0 in
    let ys = b.0 in
    let bytes = b.1.0 in
    let one = lines_up xs ys [] bytes (AreGood-fit given xs a.1) (AreGood-fit given ys b.1.1) (ends input xs a.2 ∙ b.1.2) in
    elim one [
      | inl g ↦ absurd (no_more xs ys g)
      | inr more ↦ elim more [
        | inl g ↦ good_or_stop none given ys xs bytes rest fault a.1 g b.1.4
        | inr same ↦ no_stop_at_end given ys rest fault (let P : List ℕ → Type 0 = λ w. IsStop given ys w rest fault in subst P (sym same.1) b.1.4)
      ]
    ]

-- ---- one refusal at one place

lacks_or_passes : (graph : List Entry) (e : Entry) (id : UpdateId) → LacksPredecessor graph e id → PassesLimit graph e → ⊥
lacks_or_passes graph e id lacks passes = let first = lacks.first in let none = passes.preds in cc

lacks_once : (graph : List Entry) (e : Entry) (id other : UpdateId) → LacksPredecessor graph e id → LacksPredecessor graph e other → id ≡ other
lacks_once graph e id other a b = let first = a.first in let again = b.first in cc

same_fault : (a b : CodecFault) → (a.kind ≡ b.kind) × (a.place ≡ b.place) → a ≡ b
same_fault a b e = ap (λ (k : CodecKind). fault_at k a.place) e.0 ∙ ap (λ (p : ℕ). fault_at b.kind p) e.1
  where
    fault_at : CodecKind → ℕ → CodecFault
    fault_at k p = record { kind = k; place = p }

cut_once : (bytes rest other : List ℕ) (f g : CodecFault) → IsCut bytes rest f.kind f.place → IsCut bytes other g.kind g.place → f ≡ g
cut_once bytes rest other f g a b = same_fault f g (by f.kind g.kind f.place g.place a b)
  where
    by : (kind other_kind : CodecKind) (place at : ℕ) → IsCut bytes rest kind place → IsCut bytes other other_kind at → (kind ≡ other_kind) × (place ≡ at)
    by kind other_kind place at (short came is) (short more like) = (refl, is.1 ∙ sym like.1)
    by kind other_kind place at (short came is) (too_long like) = absurd (cut_or_long UPDATE_LIMIT bytes is.0 like.0)
    by kind other_kind place at (too_long is) (short came like) = absurd (cut_or_long UPDATE_LIMIT bytes like.0 is.0)
    by kind other_kind place at (too_long is) (too_long like) = (refl, refl)

cuts_once : (bytes rest other : List ℕ) (f g : CheckFault) → IsCutAs bytes rest f → IsCutAs bytes other g → f ≡ g
cuts_once bytes rest other (Codec f) (Codec g) a b = ap Codec (cut_once bytes rest other f g a b)
cuts_once bytes rest other (Codec f) WrongDatabase a b = absurd b
cuts_once bytes rest other (Codec f) AuthorNotListed a b = absurd b
cuts_once bytes rest other (Codec f) BadSignature a b = absurd b
cuts_once bytes rest other WrongDatabase g a b = absurd a
cuts_once bytes rest other AuthorNotListed g a b = absurd a
cuts_once bytes rest other BadSignature g a b = absurd a

checks_once : OneCause → (given : Option RuleData) (records : List (List ℕ)) (bytes rest other : List ℕ) (f g : CheckFault) → HasFault given records bytes rest (Check f) → HasFault given records bytes other (Check g) → f ≡ g
checks_once one given records bytes rest other f g (inl a) (inl b) = cuts_once bytes rest other f g a b
checks_once one given records bytes rest other f g (inl a) (inr b) = absurd (cut_or_whole bytes b.0 rest other f a b.1)
checks_once one given records bytes rest other f g (inr a) (inl b) = absurd (cut_or_whole bytes a.0 other rest g b a.1)
checks_once one given records bytes rest other f g (inr a) (inr b) =
    let P : List ℕ → Type 0 = λ w. IsCause (rule_of given (records ++ w ∷ [])) w f in
    one (rule_of given (records ++ b.0 ∷ [])) b.0 f g (subst P (one_held bytes a.0 b.0 rest other a.1 b.1) a.2) b.2

faults_once : OneCause → NoCause → (given : Option RuleData) (records : List (List ℕ)) (bytes rest other : List ℕ) (f g : RecordFault) → HasFault given records bytes rest f → HasFault given records bytes other g → f ≡ g
faults_once one none given records bytes rest other (Check f) (Check g) a b = ap Check (checks_once one given records bytes rest other f g a b)
faults_once one none given records bytes rest other (Check f) (Lacks id) a b = absurd (cause_or_accepted none given records bytes b.0 rest other f a b.1.begins b.1.accepted)
faults_once one none given records bytes rest other (Check f) Full a b = absurd (cause_or_accepted none given records bytes b.0 rest other f a b.1.begins b.1.accepted)
faults_once one none given records bytes rest other (Lacks id) (Check g) a b = absurd (cause_or_accepted none given records bytes a.0 other rest g b a.1.begins a.1.accepted)
faults_once one none given records bytes rest other (Lacks id) (Lacks name) a b =
    let P : List ℕ → Type 0 = λ w. LacksPredecessor (graph_of records) (entry_of w) id in
    ap Lacks (lacks_once (graph_of records) (entry_of b.0) id name (subst P (one_held bytes a.0 b.0 rest other a.1.begins b.1.begins) a.2) b.2)
faults_once one none given records bytes rest other (Lacks id) Full a b =
    let P : List ℕ → Type 0 = λ w. LacksPredecessor (graph_of records) (entry_of w) id in
    absurd (lacks_or_passes (graph_of records) (entry_of b.0) id (subst P (one_held bytes a.0 b.0 rest other a.1.begins b.1.begins) a.2) b.2)
faults_once one none given records bytes rest other Full (Check g) a b = absurd (cause_or_accepted none given records bytes a.0 other rest g b a.1.begins a.1.accepted)
faults_once one none given records bytes rest other Full (Lacks id) a b =
    let P : List ℕ → Type 0 = λ w. LacksPredecessor (graph_of records) (entry_of w) id in
    absurd (lacks_or_passes (graph_of records) (entry_of a.0) id (subst P (one_held bytes b.0 a.0 other rest b.1.begins a.1.begins) b.2) a.2)
faults_once one none given records bytes rest other Full Full a b = refl

stops_once : OneCause → NoCause → (given : Option RuleData) (records : List (List ℕ)) (bytes rest other : List ℕ) (f g : RecordFault) → IsStop given records bytes rest f → IsStop given records bytes other g → f ≡ g
stops_once one none given records bytes rest other f g (inl a) (inl b) = faults_once one none given records bytes rest other f g a.1 b.1
stops_once one none given records bytes rest other f g (inl a) (inr b) = absurd (omega (arith, a.0, b.0))
stops_once one none given records bytes rest other f g (inr a) (inl b) = absurd (omega (arith, a.0, b.0))
stops_once one none given records bytes rest other f g (inr a) (inr b) = a.3 ∙ sym b.3

pub refused_once : OneCause → NoCause → (given : Option RuleData) (input rest other : List ℕ) (m n : ℕ) (f g : RecordFault) → IsRefused given input rest m f → IsRefused given input other n g → (m ≡ n) × (f ≡ g)
refused_once one none given input rest other m n f g a b =
    let xs = a.0 in
    let ys = b.0 in
    let x = a.1 in
    let y = b.1 in
    let up = lines_up xs ys x.0 y.0 (AreGood-fit given xs x.1) (AreGood-fit given ys y.1) (sym x.2 ∙ y.2) in
    elim up [
      | inl go ↦ absurd (good_or_stop none given xs ys x.0 rest f y.1 go x.4)
      | inr more ↦ elim more [
        | inl go ↦ absurd (good_or_stop none given ys xs y.0 other g x.1 go y.4)
        | inr same ↦
            let Q : List (List ℕ) → Type 0 = λ w. IsStop given w y.0 other g in
            let R : List ℕ → Type 0 = λ w. IsStop given xs w other g in (
              x.3 ∙ ap (λ (w : List (List ℕ)). length w + 1) same.0 ∙ sym y.3,
              stops_once one none given xs x.0 rest other f g x.4 (subst R (sym same.1) (subst Q (sym same.0) y.4)),
            )
      ]
    ]
