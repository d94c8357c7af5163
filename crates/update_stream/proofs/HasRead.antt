-- What was read so far, and what it tells at the end, where a record is refused, or where the reading fails.
use Rattle.std.proofs.Common.{◌≡◌, ℕ, inl, inr, ◌<◌, ◌+◌, List, [], ◌∷◌, ◌++◌, length, refl, sym, ap, subst, ◌∙◌, append_assoc, length-append, Option, Some, None, arith}
use Rattle.std.specs.Io.KnownBytes.{Consumes}
use Rattle.std.proofs.KnownBytes.{Consumes-nil}
use Rattle.bec_bytes.specs.Framed.{framed, stream_of, HoldsPiece, StandsFirst, StaysWithin, IsLeft}
use Rattle.bec_bytes.specs.Moved.{IfTold}
use Rattle.bec_bytes.specs.declared.framed.Framed.TheVariants.{Cut, TooLong}
use Rattle.bec_bytes.specs.declared.read_error.ReadError.{ReadError}
use Rattle.bec_bytes.specs.declared.read_error.ReadError.TheVariants.{Failed, Memory}
use Rattle.bec_bytes.proofs.Frames.{stream_of-push, stream_of-nil}
use Rattle.bec_bytes.proofs.ReadFrames.{behind, held_within, left_within}
use Rattle.update_model.specs.Rule.{RuleData}
use Rattle.update_codec.specs.declared.limits.TheConstants.{UPDATE_LIMIT}
use Rattle.update_codec.specs.declared.codec_fault.CodecKind.TheVariants as kinds
use Rattle.update_check.specs.declared.check_error.CheckFault.TheVariants.{Codec}
use Rattle.update_stream.specs.declared.record_fault.RecordFault.{RecordFault}
use Rattle.update_stream.specs.declared.record_fault.RecordFault.TheVariants.{Check, Lacks, Full}
use Rattle.update_stream.specs.declared.stream.TheConstants.{MAX_RECORDS}
use Rattle.update_stream.specs.Stream.{firsts, rule_of, AreGood, IsRefused, IsStop, HasFault, short, too_long, MayFail, BreaksOff}
use Rattle.update_stream.specs.Steps.{Takes, rule_for, set_after}
use Rattle.update_stream.proofs.Firsts.{firsts-held, firsts-new}
use Rattle.update_stream.proofs.Good.{AreGood-none, AreGood-held, AreGood-new}

-- the rule that is set behind these records
abbrev pub set_by : Option RuleData → List (List ℕ) → Option RuleData
set_by (Some rule) records = None
set_by None [] = None
set_by None (x ∷ xs) = Some (rule_of None (x ∷ xs))

-- So far the source gave this many good records, whose members these are, and this rule is set.
pub record HasRead (given set : Option RuleData) (before after : Option (List ℕ)) (members : List (List ℕ)) (count : ℕ) : Type 0 where
  pub records : List (List ℕ)
  pub good : AreGood given records
  pub firsts_of : members ≡ firsts records
  pub counted : count ≡ length records
  pub came : Consumes before after (stream_of records)
  pub rule : set ≡ set_by given records

pub HasRead-none : (given : Option RuleData) (a : Option (List ℕ)) → HasRead given None a a [] 0
HasRead-none given a = record { records = []; good = AreGood-none given; firsts_of = refl; counted = refl; came = rw stream_of-nil (Consumes-nil a); rule = none given }
  where
    none : (o : Option RuleData) → None ≡ set_by o []
    none None = refl
    none (Some rule) = refl

rule_for-next : (given : Option RuleData) (records : List (List ℕ)) (r : List ℕ) → rule_for given (set_by given records) r ≡ rule_of given (records ++ r ∷ [])
rule_for-next (Some rule) records r = refl
rule_for-next None [] r = refl
rule_for-next None (x ∷ xs) r = refl

set_after-next : (given : Option RuleData) (records : List (List ℕ)) (r : List ℕ) → set_after given (set_by given records) r ≡ set_by given (records ++ r ∷ [])
set_after-next (Some rule) records r = refl
set_after-next None [] r = refl
set_after-next None (x ∷ xs) r = refl

-- what is taken under the rule that is set is taken under the stream's
taken_under : (given set : Option RuleData) (records members after : List (List ℕ)) (r : List ℕ) (fault : Option RecordFault) → set ≡ set_by given records → members ≡ firsts records
    → Takes (rule_for given set r) members r after fault → Takes (rule_of given (records ++ r ∷ [])) (firsts records) r after fault
taken_under given set records members after r fault is same taken =
    let P : RuleData → Type 0 = λ rule. Takes rule (firsts records) r after fault in
    let Q : List (List ℕ) → Type 0 = λ ms. Takes (rule_for given set r) ms r after fault in
    subst P (ap (λ (s : Option RuleData). rule_for given s r) is ∙ rule_for-next given records r) (subst Q same taken)

-- one more record, which was taken
pub HasRead-more : (given set new : Option RuleData) (a b c : Option (List ℕ)) (members after : List (List ℕ)) (n : ℕ) (r : List ℕ) → HasRead given set a b members n → n < MAX_RECORDS
    → IfTold b c (λ bytes rest. HoldsPiece UPDATE_LIMIT bytes r rest) → Takes (rule_for given set r) members r after None → new ≡ set_after given set r → HasRead given new a c after (n + 1)
HasRead-more given set new a b c members after n r h few came taken is =
    let under = taken_under given set h.records members after r None h.rule h.firsts_of taken in
    let counted = h.counted in
    let short : length h.records < MAX_RECORDS = omega arith in
    let all : Consumes a c (stream_of (h.records ++ r ∷ [])) = rw stream_of-push (consumed a b c h.came came) in
    let rule : new ≡ set_by given (h.records ++ r ∷ []) = is ∙ ap (λ (s : Option RuleData). set_after given s r) h.rule ∙ set_after-next given h.records r in
    elim under.1 [
      | inl held ↦ record {
        records = h.records ++ r ∷ [];
        good = AreGood-held given h.records r h.good under.0 short held.0;
        firsts_of = held.1 ∙ sym (firsts-held h.records r held.0);
        counted = omega (arith, length-append h.records (r ∷ []), counted);
        came = all;
        rule = rule;
      }
      | inr next ↦ record {
        records = h.records ++ r ∷ [];
        good = AreGood-new given h.records r h.good under.0 short next.0 next.1;
        firsts_of = next.2 ∙ sym (firsts-new h.records r next.0.new);
        counted = omega (arith, length-append h.records (r ∷ []), counted);
        came = all;
        rule = rule;
      }
    ]
  where
    consumed : (x y z : Option (List ℕ)) → Consumes x y (stream_of h.records) → IfTold y z (λ bytes rest. HoldsPiece UPDATE_LIMIT bytes r rest) → Consumes x z (stream_of h.records ++ framed r)
    consumed None y z first second = tt
    consumed (Some xs) None z first second = absurd first
    consumed (Some xs) (Some ys) None first second = absurd (let none = second.1 in cc)
    consumed (Some xs) (Some ys) (Some zs) first second =
        let same : zs ≡ second.0 = (let e = second.1 in cc) in
        first ∙ ap (λ (w : List ℕ). stream_of h.records ++ w) (second.2.parts ∙ ap (λ (w : List ℕ). framed r ++ w) (sym same)) ∙ sym (append_assoc (stream_of h.records) (framed r) zs)

-- what stands next has a fault
told_stop : (given set : Option RuleData) (a b c : Option (List ℕ)) (members : List (List ℕ)) (n : ℕ) (fault : RecordFault) (P : List ℕ → List ℕ → Type 0) → (h : HasRead given set a b members n)
    → IfTold b c P → ((bytes rest : List ℕ) → P bytes rest → IsStop given h.records bytes rest fault) → IfTold a c (λ input rest. IsRefused given input rest (n + 1) fault)
told_stop given set a b c members n fault P h found stops =
    behind a b c (stream_of h.records) P (λ input rest. IsRefused given input rest (n + 1) fault) h.came found
    (λ bytes rest p. (h.records, (bytes, h.good, refl, ap (λ (k : ℕ). k + 1) h.counted, stops bytes rest p)))

few_records : (given set : Option RuleData) (a b : Option (List ℕ)) (members : List (List ℕ)) (n : ℕ) → (h : HasRead given set a b members n) → n < MAX_RECORDS → length h.records < MAX_RECORDS
few_records given set a b members n h few = let counted = h.counted in omega arith

pub told_short : (given set : Option RuleData) (a b c : Option (List ℕ)) (members : List (List ℕ)) (n came : ℕ) → HasRead given set a b members n → n < MAX_RECORDS
    → IfTold b c (λ bytes rest. StandsFirst UPDATE_LIMIT bytes rest (Cut came)) → IfTold a c (λ input rest. IsRefused given input rest (n + 1) (Check (Codec (record { kind = kinds.Short; place = came }))))
told_short given set a b c members n came h few found =
    told_stop given set a b c members n (Check (Codec (record { kind = kinds.Short; place = came }))) (λ bytes rest. StandsFirst UPDATE_LIMIT bytes rest (Cut came)) h found
    (λ bytes rest p. inl (few_records given set a b members n h few, inl (short came p)))

pub told_long : (given set : Option RuleData) (a b c : Option (List ℕ)) (members : List (List ℕ)) (n : ℕ) → HasRead given set a b members n → n < MAX_RECORDS
    → IfTold b c (λ bytes rest. StandsFirst UPDATE_LIMIT bytes rest TooLong) → IfTold a c (λ input rest. IsRefused given input rest (n + 1) (Check (Codec (record { kind = kinds.TooLong; place = UPDATE_LIMIT }))))
told_long given set a b c members n h few found =
    told_stop given set a b c members n (Check (Codec (record { kind = kinds.TooLong; place = UPDATE_LIMIT }))) (λ bytes rest. StandsFirst UPDATE_LIMIT bytes rest TooLong) h found
    (λ bytes rest p. inl (few_records given set a b members n h few, inl (too_long p)))

fault_of : (given : Option RuleData) (records : List (List ℕ)) (r bytes rest : List ℕ) (result : List (List ℕ)) (fault : RecordFault) → HoldsPiece UPDATE_LIMIT bytes r rest
    → Takes (rule_of given (records ++ r ∷ [])) (firsts records) r result (Some fault) → HasFault given records bytes rest fault
fault_of given records r bytes rest result (Check fault) begins taken = inr (r, begins, taken)
fault_of given records r bytes rest result (Lacks id) begins taken = (r, record { begins = begins; accepted = taken.0 }, taken.1)
fault_of given records r bytes rest result Full begins taken = (r, record { begins = begins; accepted = taken.0 }, taken.1)

pub told_fault : (given set : Option RuleData) (a b c : Option (List ℕ)) (members after : List (List ℕ)) (n : ℕ) (r : List ℕ) (fault : RecordFault) → HasRead given set a b members n → n < MAX_RECORDS
    → IfTold b c (λ bytes rest. HoldsPiece UPDATE_LIMIT bytes r rest) → Takes (rule_for given set r) members r after (Some fault) → IfTold a c (λ input rest. IsRefused given input rest (n + 1) fault)
told_fault given set a b c members after n r fault h few found taken =
    told_stop given set a b c members n fault (λ bytes rest. HoldsPiece UPDATE_LIMIT bytes r rest) h found
    (λ bytes rest p. inl (few_records given set a b members n h few, fault_of given h.records r bytes rest after fault p (taken_under given set h.records members after r (Some fault) h.rule h.firsts_of taken)))

-- the reading failed so in what stands next
told_left : (given set : Option RuleData) (a b c : Option (List ℕ)) (members : List (List ℕ)) (n : ℕ) (error : ReadError) → (h : HasRead given set a b members n) → MayFail error h.records
    → IfTold b c (StaysWithin UPDATE_LIMIT) → IfTold a c (BreaksOff given error)
told_left given set a b c members n error h may found =
    behind a b c (stream_of h.records) (StaysWithin UPDATE_LIMIT) (BreaksOff given error) h.came found (λ bytes rest p. (h.records, (bytes, h.good, refl, may, p)))

-- where fewer records came than a stream has at most, a reading may fail in any way
may_fail : (error : ReadError) (records : List (List ℕ)) → length records < MAX_RECORDS → MayFail error records
may_fail Failed records few = tt
may_fail Memory records few = few

weaker : (b c : Option (List ℕ)) (P Q : List ℕ → List ℕ → Type 0) → IfTold b c P → ((bytes rest : List ℕ) → P bytes rest → Q bytes rest) → IfTold b c Q
weaker None c P Q found each = tt
weaker (Some xs) c P Q found each = (found.0, found.1, each xs found.0 found.2)

-- in a record
pub left_record : (given set : Option RuleData) (a b c : Option (List ℕ)) (members : List (List ℕ)) (n : ℕ) (error fails : ReadError) → HasRead given set a b members n → n < MAX_RECORDS
    → IfTold b c (λ bytes rest. IsLeft UPDATE_LIMIT bytes rest error) → IfTold a c (BreaksOff given fails)
left_record given set a b c members n error fails h few found =
    told_left given set a b c members n fails h (may_fail fails h.records (few_records given set a b members n h few)) (weaker b c (λ bytes rest. IsLeft UPDATE_LIMIT bytes rest error) (StaysWithin UPDATE_LIMIT) found (λ bytes rest left. left_within UPDATE_LIMIT bytes rest error left))

-- behind a whole one
pub left_behind : (given set : Option RuleData) (a b c : Option (List ℕ)) (members : List (List ℕ)) (n : ℕ) (error : ReadError) (r : List ℕ) → HasRead given set a b members n → n < MAX_RECORDS
    → IfTold b c (λ bytes rest. HoldsPiece UPDATE_LIMIT bytes r rest) → IfTold a c (BreaksOff given error)
left_behind given set a b c members n error r h few found =
    told_left given set a b c members n error h (may_fail error h.records (few_records given set a b members n h few)) (weaker b c (λ bytes rest. HoldsPiece UPDATE_LIMIT bytes r rest) (StaysWithin UPDATE_LIMIT) found (λ bytes rest p. held_within UPDATE_LIMIT bytes r rest (omega arith) p))
