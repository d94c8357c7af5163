-- Where reading fails is the first fault of the bytes, and the other way round.
use Rattle.std.proofs.Common.{◌≡◌, ◌⊎◌, ◌≢◌, ℕ, suc, ◌+◌, ◌-◌, ◌<◌, ◌≤◌, Bool, true, false, List, [], ◌∷◌, ◌++◌, length, refl, sym, ap, subst, ◌∙◌, arith, ltb, eqb, inl, inr}
use Rattle.std.proofs.lemmas.List.{append-nil, length-append}
use Rattle.std.proofs.lemmas.Bool.{ltb-true, ltb-false, lt-ltb, le-ltb}
use Rattle.std.proofs.lemmas.Bool.Decides.{nat_tests}
use Rattle.std.specs.Prelude.{Result, Ok, Err, IfOk, IfErr}
use Rattle.update_model.specs.Block.{AreBytes}
use Rattle.update_model.specs.Form.{BodyData, UpdateData, IsUpdate}
use Rattle.update_codec.specs.declared.codec_fault.CodecKind.{CodecKind}
use Rattle.update_codec.specs.declared.codec_fault.CodecKind.TheVariants as kinds
use Rattle.update_codec.specs.declared.codec_fault.CodecFault.{CodecFault}
use Rattle.update_codec.specs.declared.decode_error.DecodeError.{DecodeError}
use Rattle.update_codec.specs.declared.decode_error.DecodeError.TheVariants.{Fault, Memory}
use Rattle.update_codec.specs.declared.halt.Halt.{Halt}
use Rattle.update_codec.specs.Faults.{FirstFault, BeginsWithUpdate, BeginsWithFault, UpdateFault, too_long, in_field, after_update, cut_short}
use Rattle.update_codec.specs.Kept.{IsKept, header_from}
use Rattle.update_codec.specs.Outcome.{Answers, Fails, HasCause}
use Rattle.update_codec.specs.Parts.{body_of, id_of, update_of}
use Rattle.update_codec.specs.Reading.{update_at, whole, placed, first_of}
use Rattle.update_codec.specs.Spelling as spell
use Rattle.update_codec.specs.Spelling.{Spells, IsSpelling}
use Rattle.update_codec.proofs.Steps.{done, failed, short_halt, halt_at, err_is, bind_err, judge_err, judge_fails, fails_first, then_is, not_both}
use Rattle.update_codec.proofs.TakesLemmas.{update_takes, whole_takes}
use Rattle.update_codec.proofs.Again.{update_again, whole_again}
use Rattle.update_codec.proofs.Stops.{update_stops}
use Rattle.update_codec.proofs.Told.{update_told, update_whole}
use Rattle.update_codec.proofs.Places.{kept_of}

abbrev pub faulted : (A : Type 0) → CodecFault → Result A CodecFault
faulted A fault = Err fault

abbrev pub found : {A : Type 0} → A → Result A CodecFault
found x = Ok x

fault_is : (a b : CodecFault) → faulted UpdateData a ≡ faulted UpdateData b → a ≡ b
fault_is a b e = cc

-- Bytes that begin with an update are read so.
begins_again : (bytes : List ℕ) (b : BeginsWithUpdate bytes) → update_at bytes ≡ Ok (b.update, b.rest)
begins_again bytes b = subst (λ (t : List ℕ). update_at t ≡ Ok (b.update, b.rest)) (sym b.parts) (update_again b.update b.rest b.form)

-- reading that fails in a field of an update
record IsHalted (bytes : List ℕ) (kind : CodecKind) (at : ℕ) : Type 0 where
  left : ℕ
  is : update_at bytes ≡ failed (UpdateData × List ℕ) (record { kind = kind; left = left })
  place : at + left ≡ length bytes

halted : (bytes front rest : List ℕ) (kind : CodecKind) (at : ℕ) → bytes ≡ front ++ rest → UpdateFault front kind at → IsHalted bytes kind at
halted bytes front rest kind at parts f =
    let t = update_told front kind at f rest in
    record { left = t.left; is = subst (λ (b : List ℕ). update_at b ≡ failed (UpdateData × List ℕ) (record { kind = kind; left = t.left })) (sym parts) t.is; place = t.place ∙ ap length (sym parts) }

-- Where reading met the end of the bytes, they begin neither with an update nor with a fault.
not_update : (bytes : List ℕ) (h : Halt) → update_at bytes ≡ failed (UpdateData × List ℕ) h → ¬ (BeginsWithUpdate bytes)
not_update bytes h e = λ b. not_both (update_at bytes) (b.update, b.rest) h (begins_again bytes b) e

not_fault : (bytes : List ℕ) → update_at bytes ≡ failed (UpdateData × List ℕ) short_halt → ¬ (BeginsWithFault bytes)
not_fault bytes e = λ b.
    let told = halted bytes b.front b.rest b.kind b.at b.parts b.is_fault in
    let same = err_is (UpdateData × List ℕ) (record { kind = b.kind; left = told.left }) short_halt (sym told.is ∙ e) in
    update_whole b.front b.kind b.at b.is_fault (ap (λ (h : Halt). h.kind) same)

-- The halt of reading is the first fault of the bytes.
whole_stops : (bytes : List ℕ) (h : Halt) → AreBytes bytes → length bytes ≤ 262144 → whole bytes ≡ failed UpdateData h → FirstFault bytes h.kind (length bytes - h.left)
unfolding whole
whole_stops bytes h fits few e = elim (bind_err (update_at bytes) _ h e) [
  | inl f ↦ elim (update_stops bytes h fits f) [
    | inl is ↦ cut h is f
    | inr t ↦ subst (λ (p : ℕ). FirstFault bytes h.kind p) (back t.at h.left (length bytes) t.place) (in_field t.front t.rest h.kind t.at few t.parts t.is_fault)
  ]
  | inr a ↦ elim (judge_err (eqb (length a.0.1) 0) kinds.Trailing a.0.1 _ h a.2) [
    | inl j ↦ let t = update_takes bytes a.0 fits a.1 in trails h a.0.0 a.0.1 t.0.parts t.1 j.0 j.1
    | inr j ↦ absurd (let g = j.1 in cc)
  ]
]
  where
    back : (a l n : ℕ) → a + l ≡ n → a ≡ n - l
    back a l n e = omega arith

    cut : (h : Halt) → h ≡ short_halt → update_at bytes ≡ failed (UpdateData × List ℕ) h → FirstFault bytes h.kind (length bytes - h.left)
    cut h is e =
        let short : update_at bytes ≡ failed (UpdateData × List ℕ) short_halt = e ∙ ap (failed (UpdateData × List ℕ)) is in
        subst (λ (k : Halt). FirstFault bytes k.kind (length bytes - k.left)) (sym is) (subst (λ (p : ℕ). FirstFault bytes kinds.Short p) (all (length bytes)) (cut_short few (not_update bytes short_halt short) (not_fault bytes short)))
      where
        all : (n : ℕ) → n ≡ n - 0
        all n = omega arith

    trails : (h : Halt) (update : UpdateData) (rest : List ℕ) → bytes ≡ spell.spelling update ++ rest → IsUpdate update → eqb (length rest) 0 ≡ false → h ≡ halt_at kinds.Trailing rest → FirstFault bytes h.kind (length bytes - h.left)
    trails h update rest parts form more is =
        let place : length (spell.spelling update) ≡ length bytes - length rest = ends (length (spell.spelling update)) (length rest) (length bytes) (ap length parts ∙ length-append (spell.spelling update) rest) in
        subst (λ (k : Halt). FirstFault bytes k.kind (length bytes - k.left)) (sym is)
        (subst (λ (p : ℕ). FirstFault bytes kinds.Trailing p) place (after_update update rest few form parts (some rest more)))
      where
        ends : (s r b : ℕ) → b ≡ s + r → s ≡ b - r
        ends s r b e = omega arith

        some : (rest : List ℕ) → eqb (length rest) 0 ≡ false → rest ≢ []
        some [] more = absurd cc
        some (b ∷ rest) more = λ e. absurd cc

-- What is first found in the bytes, by what is found once they are few enough
first_within : (bytes : List ℕ) → length bytes ≤ 262144 → first_of bytes ≡ placed (length bytes) (whole bytes)
unfolding first_of
first_within bytes few = rw (le-ltb 262144 (length bytes) few) refl

first_beyond : (bytes : List ℕ) → 262144 < length bytes → first_of bytes ≡ faulted UpdateData (record { kind = kinds.TooLong; place = 262144 })
unfolding first_of
first_beyond bytes long = rw (lt-ltb 262144 (length bytes) long) refl

-- The fault that is first found is the first fault of the bytes.
pub first_is_fault : (bytes : List ℕ) (fault : CodecFault) → AreBytes bytes → first_of bytes ≡ faulted UpdateData fault → FirstFault bytes fault.kind fault.place
first_is_fault bytes fault fits e = sized (ltb 262144 (length bytes)) refl
  where
    placed_of : (r : Result UpdateData Halt) → whole bytes ≡ r → length bytes ≤ 262144 → placed (length bytes) r ≡ faulted UpdateData fault → FirstFault bytes fault.kind fault.place
    placed_of (Ok u) w few e = absurd cc
    placed_of (Err h) w few e =
        subst (λ (f : CodecFault). FirstFault bytes f.kind f.place) (fault_is (record { kind = h.kind; place = length bytes - h.left }) fault e) (whole_stops bytes h fits few w)

    sized : (long : Bool) → ltb 262144 (length bytes) ≡ long → FirstFault bytes fault.kind fault.place
    sized true h =
        let long = ltb-true 262144 (length bytes) h in
        subst (λ (f : CodecFault). FirstFault bytes f.kind f.place) (fault_is (record { kind = kinds.TooLong; place = 262144 }) fault (sym (first_beyond bytes long) ∙ e)) (too_long long)
    sized false h =
        let few = ltb-false 262144 (length bytes) h in
        placed_of (whole bytes) refl few (sym (first_within bytes few) ∙ e)

-- The bytes end in a field.
pub record IsCut (bytes : List ℕ) : Type 0 where
  pub few : length bytes ≤ 262144
  pub no_update : ¬ (BeginsWithUpdate bytes)
  pub no_fault : ¬ (BeginsWithFault bytes)

cut_only : (bytes : List ℕ) (kind : CodecKind) (place : ℕ) → IsCut bytes → FirstFault bytes kind place → (kind ≡ kinds.Short) × (place ≡ length bytes)
cut_only bytes kind place c (too_long long) = absurd (apart (length bytes) long c.few)
  where
    apart : (n : ℕ) → 262144 < n → n ≤ 262144 → ⊥
    apart n h g = absurd (omega arith)
cut_only bytes kind place c (in_field front rest what at few parts f) = absurd (c.no_fault (record { front = front; rest = rest; kind = what; at = at; is_fault = f; parts = parts }))
cut_only bytes kind place c (after_update update rest few form parts some) = absurd (c.no_update (record { update = update; rest = rest; form = form; parts = parts }))
cut_only bytes kind place c (cut_short few a b) = (refl, refl)

-- the halt of reading, with its place
placed_is : (bytes : List ℕ) (kind : CodecKind) (at left : ℕ) → length bytes ≤ 262144 → whole bytes ≡ failed UpdateData (record { kind = kind; left = left }) → at + left ≡ length bytes
    → first_of bytes ≡ faulted UpdateData (record { kind = kind; place = at })
placed_is bytes kind at left few e place =
    first_within bytes few ∙ ap (placed (length bytes)) e ∙ ap (λ (p : ℕ). faulted UpdateData (record { kind = kind; place = p })) (back at left (length bytes) place)
  where
    back : (a l n : ℕ) → a + l ≡ n → n - l ≡ a
    back a l n e = omega arith

whole_fails : (bytes : List ℕ) (h : Halt) → update_at bytes ≡ failed (UpdateData × List ℕ) h → whole bytes ≡ failed UpdateData h
unfolding whole
whole_fails bytes h e = fails_first (update_at bytes) _ h e

whole_trails : (bytes : List ℕ) (update : UpdateData) (rest : List ℕ) → update_at bytes ≡ Ok (update, rest) → rest ≢ [] → whole bytes ≡ failed UpdateData (halt_at kinds.Trailing rest)
unfolding whole
whole_trails bytes update rest e some =
    then_is (update_at bytes) _ (update, rest) _ e (judge_fails (eqb (length rest) 0) kinds.Trailing rest _ (more rest some))
  where
    more : (rest : List ℕ) → rest ≢ [] → eqb (length rest) 0 ≡ false
    more [] some = absurd (some refl)
    more (b ∷ rest) some = positive (length rest)
      where
        positive : (n : ℕ) → eqb (suc n) 0 ≡ false
        positive n = grind (arith, nat_tests)

-- The first fault of the bytes is found first, unless they end in a field.
pub told_or_cut : (bytes : List ℕ) (kind : CodecKind) (place : ℕ) → FirstFault bytes kind place → (first_of bytes ≡ faulted UpdateData (record { kind = kind; place = place })) ⊎ IsCut bytes
told_or_cut bytes kind place (too_long long) = inl (first_beyond bytes long)
told_or_cut bytes kind place (in_field front rest what at few parts f) =
    let t = halted bytes front rest what at parts f in
    inl (placed_is bytes what at t.left few (whole_fails bytes (record { kind = what; left = t.left }) t.is) t.place)
told_or_cut bytes kind place (after_update update rest few form parts some) =
    let again = begins_again bytes (record { update = update; rest = rest; form = form; parts = parts }) in
    inl (placed_is bytes kinds.Trailing (length (spell.spelling update)) (length rest) few (whole_trails bytes update rest again some) (sym (ap length parts ∙ length-append (spell.spelling update) rest)))
told_or_cut bytes kind place (cut_short few a b) = inr (record { few = few; no_update = a; no_fault = b })

-- Bytes have one first fault at most.
pub one_first : (bytes : List ℕ) (kind other : CodecKind) (place elsewhere : ℕ) → FirstFault bytes kind place → FirstFault bytes other elsewhere → (kind ≡ other) × (place ≡ elsewhere)
one_first bytes kind other place elsewhere f g = elim (told_or_cut bytes kind place f) [
  | inr c ↦ both c
  | inl t ↦ elim (told_or_cut bytes other elsewhere g) [
    | inr c ↦ both c
    | inl u ↦ parts (sym t ∙ u)
  ]
]
  where
    parts : faulted UpdateData (record { kind = kind; place = place }) ≡ faulted UpdateData (record { kind = other; place = elsewhere }) → (kind ≡ other) × (place ≡ elsewhere)
    parts e = let same = fault_is (record { kind = kind; place = place }) (record { kind = other; place = elsewhere }) e in (ap (λ (f : CodecFault). f.kind) same, ap (λ (f : CodecFault). f.place) same)

    both : IsCut bytes → (kind ≡ other) × (place ≡ elsewhere)
    both c =
        let a = cut_only bytes kind place c f in
        let b = cut_only bytes other elsewhere c g in
        (a.0 ∙ sym b.0, a.1 ∙ sym b.1)

-- What bytes spell is what is found first.
pub first_again : (bytes : List ℕ) (update : UpdateData) → Spells bytes update → first_of bytes ≡ found update
first_again bytes update s = first_within bytes s.short ∙ ap (placed (length bytes)) (whole_again bytes update s)

pub never_both : (bytes : List ℕ) (update : UpdateData) (fault : CodecFault) → first_of bytes ≡ found update → first_of bytes ≡ faulted UpdateData fault → ⊥
never_both bytes update fault e g = apart (sym e ∙ g)
  where
    apart : found update ≡ faulted UpdateData fault → ⊥
    apart e = absurd cc

-- Bytes that have a first fault spell no update.
pub fault_spells_none : (bytes : List ℕ) (kind : CodecKind) (place : ℕ) (update : UpdateData) → FirstFault bytes kind place → Spells bytes update → ⊥
fault_spells_none bytes kind place update f s = elim (told_or_cut bytes kind place f) [
  | inl t ↦ never_both bytes update (record { kind = kind; place = place }) (first_again bytes update s) t
  | inr c ↦ c.no_update (record { update = update; rest = []; form = s.form; parts = s.spells ∙ sym (append-nil (spell.spelling update)) })
]

-- What is found first is spelled.
pub first_spells : (bytes : List ℕ) (u : UpdateData) → AreBytes bytes → first_of bytes ≡ found u → Spells bytes u
first_spells bytes u fits e = sized (ltb 262144 (length bytes)) refl
  where
    placed_of : (r : Result UpdateData Halt) → placed (length bytes) r ≡ found u → r ≡ done u
    placed_of (Ok v) e = ap done (same v u e)
      where
        same : (a b : UpdateData) → found a ≡ found b → a ≡ b
        same a b e = cc
    placed_of (Err h) e = absurd cc

    sized : (long : Bool) → ltb 262144 (length bytes) ≡ long → Spells bytes u
    sized true h = absurd (never_both bytes u (record { kind = kinds.TooLong; place = 262144 }) e (first_beyond bytes (ltb-true 262144 (length bytes) h)))
    sized false h =
        let few = ltb-false 262144 (length bytes) h in
        let t = whole_takes bytes u fits (placed_of (whole bytes) (sym (first_within bytes few) ∙ e)) in
        record { form = t.1; spells = t.0; short = few }

-- Bytes that spell no update have a first fault.
pub has_fault : (bytes : List ℕ) → AreBytes bytes → (IsSpelling bytes → ⊥) → (kind : CodecKind) × (place : ℕ) × FirstFault bytes kind place
has_fault bytes fits none = cases (first_of bytes) refl
  where
    cases : (r : Result UpdateData CodecFault) → first_of bytes ≡ r → (kind : CodecKind) × (place : ℕ) × FirstFault bytes kind place
    cases (Ok u) e = absurd (none (u, first_spells bytes u fits e))
    cases (Err fault) e = (fault.kind, fault.place, first_is_fault bytes fault fits e)

-- What holds of an answer that is what is found first.
pub found_of : (bytes : List ℕ) (result : Result UpdateData DecodeError) → AreBytes bytes → Answers result (first_of bytes) → IfOk result (λ u. Spells bytes u)
found_of bytes (Ok u) fits e = first_spells bytes u fits e
found_of bytes (Err error) fits e = tt

pub refused_of : (bytes : List ℕ) (error : DecodeError) → AreBytes bytes → Fails error (first_of bytes) → HasCause bytes error
refused_of bytes Memory fits e = tt
refused_of bytes (Fault fault) fits e = first_is_fault bytes fault fits e

pub fault_of : (bytes : List ℕ) (result : Result UpdateData DecodeError) → AreBytes bytes → Answers result (first_of bytes) → IfErr result (λ error. HasCause bytes error)
fault_of bytes (Ok u) fits e = tt
fault_of bytes (Err error) fits e = refused_of bytes error fits e

-- A failed reading agrees with what is known of the bytes.
pub fails_only : {X : Type 0} (bytes : List ℕ) (error : DecodeError) (x : X) (u : UpdateData) → Fails error (first_of bytes) → Spells bytes u → Fails error (found x)
fails_only bytes Memory x u fails s = tt
fails_only bytes (Fault fault) x u fails s = absurd (never_both bytes u fault (first_again bytes u s) fails)

-- What is kept of bytes that were read agrees with them.
pub kept_as_read : (bytes : List ℕ) (body : BodyData) (signature : List ℕ) → AreBytes bytes → first_of bytes ≡ found (record { body = body; signature = signature }) → IsKept bytes (header_from body) (id_of bytes)
kept_as_read bytes body signature fits e = kept_of bytes (record { body = body; signature = signature }) (first_spells bytes _ fits e)

-- Bytes that spell an update are read as its body, and never refused.
pub body_as_read : (bytes : List ℕ) (body : BodyData) (signature : List ℕ) → Spells bytes (update_of bytes) → first_of bytes ≡ found (record { body = body; signature = signature }) → body ≡ body_of bytes
body_as_read bytes body signature s e = same (record { body = body; signature = signature }) (update_of bytes) (sym e ∙ first_again bytes (update_of bytes) s)
  where
    same : (a b : UpdateData) → found a ≡ found b → a.body ≡ b.body
    same a b e = cc

pub never_refused : (bytes : List ℕ) (error : DecodeError) (fault : CodecFault) → Spells bytes (update_of bytes) → error ≡ Fault fault → Fails error (first_of bytes) → ⊥
never_refused bytes error fault s is fails = never_both bytes (update_of bytes) fault (first_again bytes (update_of bytes) s) (subst (λ (e : DecodeError). Fails e (first_of bytes)) is fails)
