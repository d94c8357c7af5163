-- Why no further record is taken.
use Rattle.std.proofs.Common.{◌≡◌, inl, inr, ℕ, ◌+◌, ◌≤◌, ◌<◌, List, [], ◌∷◌, ◌++◌, length, refl, sym, ap, subst, ◌∙◌, append-nil, arith, Option, Some, None, Ok, Err, IfErr}
use Rattle.std.specs.Prelude.{OnOk, Result}
use Rattle.std.specs.Io.KnownBytes.{Appends, Consumes}
use Rattle.std.proofs.KnownBytes.{Appends-nil, Consumes-nil}
use Rattle.bec_bytes.specs.Framed.{framed, stream_of}
use Rattle.bec_bytes.specs.Moved.{IfTold}
use Rattle.bec_bytes.proofs.Frames.{stream_of-nil, stream_of-push}
use Rattle.bec_bytes.proofs.ReadFrames.{told}
use Rattle.schema.specs.Data.{SchemaData}
use Rattle.schema_verdict.specs.Written.{SinkState}
use Rattle.replica.specs.Replicas.{ReplicaState}
use Rattle.update_stream.specs.Steps.{Takes}
use Rattle.update_stream.specs.declared.stream.TheConstants.{MAX_RECORDS}
use Rattle.outcomes.specs.declared.refusal.Refusal.{Refusal}
use Rattle.outcomes.specs.declared.refusal.Refusal.TheVariants.{Memory}
use Rattle.watch_command.specs.Ending.{Leaves, StopsAt, Streams, WritesFront, stop_of}
use Rattle.watch_command.specs.Steps.{FindsEnd, FollowsOpen, GoesOn, IsAtEnd, StopsClosing, moment}
use Rattle.watch_command.specs.Watching.{Closes, CountView, Ends, Follows, HasMembers, Moment, Turn}
use Rattle.watch_command.specs.declared.stop.Stop.{Stop}
use Rattle.watch_command.specs.declared.stop.Stop.TheVariants.{Refused, Unwritten}
use Rattle.watch_command.proofs.Reading.{weaker}
use Rattle.watch_command.proofs.Running.{goes_nowhere}

-- nothing was read
pub unread : (b : Option (List ℕ)) (P : List ℕ → List ℕ → Type 0) → ((bytes : List ℕ) → P bytes bytes) → IfTold b b P
unread b P each = told b b [] P (Consumes-nil b) each

-- no further record is taken
pub alone : (schema : SchemaData) (count : ℕ) (first : Moment) (before after : Option (List ℕ)) (text : List ℕ) (members : List (List ℕ)) (stop : Option Stop) → count ≤ MAX_RECORDS
    → Ends schema count first stop text members → IfTold before after (Leaves schema.rule first.members count stop) → Follows schema count first before after text members stop
alone schema count first before after text members stop few ends leaves =
    let same : count ≡ count + length {A = List ℕ} [] = omega arith in
    record {
      records = [];
      told = [];
      last = first;
      closing = text;
      few = omega (arith, few);
      turns = (refl, refl);
      ends = subst (λ (n : ℕ). Ends schema n first stop text members) same ends;
      all = refl;
      read = weaker before after (Leaves schema.rule first.members count stop)
          (λ input rest. (bytes : List ℕ) × (input ≡ stream_of [] ++ bytes) × Leaves schema.rule first.members (count + length {A = List ℕ} []) stop bytes rest) leaves
          (λ bytes rest p. (bytes, ap (λ (w : List ℕ). w ++ bytes) (sym stream_of-nil), subst (λ (n : ℕ). Leaves schema.rule first.members n stop bytes rest) same p));
    }

same_members : (schema : SchemaData) (last members : List (List ℕ)) (why : Refusal) → members ≡ last → HasMembers schema last why members
same_members schema last members Memory same = inl same
same_members schema last members why same = same

-- for what stands next in the stream
pub stops : (count : ℕ) (old new : ReplicaState) (view : CountView) (before after : Streams) (why : Refusal) → count ≤ MAX_RECORDS
    → StopsAt old.history.schema.rule old.history.members count before.left after.left old.log.faults new.log.faults before.faults after.faults why
    → new.history.members ≡ old.history.members → after.sink ≡ before.sink → GoesOn old new before after → FollowsOpen count old new view before after (Some (Refused why))
stops count old new view before after why few at same sink on = record {
  text = [];
  follows = alone old.history.schema count (moment old view) before.left after.left [] new.history.members (Some (Refused why)) few
      (refl, same_members old.history.schema old.history.members new.history.members why same, at.may) at.leaves;
  written = subst (λ (s : SinkState). Appends before.sink.held s.held []) (sym sink) (Appends-nil before.sink.held);
  cause = at.cause;
  whole = λ done. absurd cc;
  on = on;
}

-- a record was taken, and memory ran out before anything was told of it
pub stops_untold : (count : ℕ) (old new : ReplicaState) (view : CountView) (before after : Streams) (bytes : List ℕ) → count ≤ MAX_RECORDS
    → Takes old.history.schema.rule old.history.members bytes new.history.members None → Consumes before.left after.left (framed bytes) → after.sink ≡ before.sink → GoesOn old new before after
    → FollowsOpen count old new view before after (Some (Refused Memory))
stops_untold count old new view before after bytes few takes came sink on = record {
  text = [];
  follows = alone old.history.schema count (moment old view) before.left after.left [] new.history.members (Some (Refused Memory)) few (refl, inr (bytes, takes), tt)
      (told before.left after.left (framed bytes) (λ _ _. Unit {0}) came (λ rest. tt));
  written = subst (λ (s : SinkState). Appends before.sink.held s.held []) (sym sink) (Appends-nil before.sink.held);
  cause = tt;
  whole = λ done. absurd cc;
  on = on;
}

stream_of_one : (bytes : List ℕ) → stream_of (bytes ∷ []) ≡ framed bytes
stream_of_one bytes = stream_of-push [] bytes ∙ ap (λ (w : List ℕ). w ++ framed bytes) stream_of-nil

-- a record was taken, and the sink failed at its block
pub stops_unwritten : (count : ℕ) (old new : ReplicaState) (view view_new : CountView) (before after : Streams) (bytes text : List ℕ) → count < MAX_RECORDS
    → Turn old.history.schema (count + 1) (moment old view) bytes text (moment new view_new) → Consumes before.left after.left (framed bytes) → WritesFront before.sink after.sink text → GoesOn old new before after
    → FollowsOpen count old new view before after (Some Unwritten)
stops_unwritten count old new view view_new before after bytes text few turn came failed on = record {
  text = text;
  follows = record {
    records = bytes ∷ [];
    told = text;
    last = moment new view_new;
    closing = [];
    few = omega (arith, few);
    turns = (moment new view_new, text, [], turn, (refl, refl), sym (append-nil text));
    ends = (inl refl, refl);
    all = sym (append-nil text);
    read = told before.left after.left (framed bytes)
        (λ input rest. (more : List ℕ) × (input ≡ stream_of (bytes ∷ []) ++ more) × (rest ≡ more)) came
        (λ rest. (rest, ap (λ (w : List ℕ). w ++ rest) (sym (stream_of_one bytes)), refl));
  };
  written = failed;
  cause = tt;
  whole = λ done. absurd cc;
  on = on;
}

module _ (count : ℕ) (old : ReplicaState) (view : CountView) (before : Streams) (left : Option (List ℕ)) (faults : ℕ) (sink : SinkState) (few : count ≤ MAX_RECORDS)
    (end : IfTold before.left left IsAtEnd) (later : before.faults ≤ faults) (sink_later : before.sink.faults ≤ sink.faults) where
  abbrev after : Streams
  after = record { left = left; faults = faults; sink = sink }

  on : GoesOn old old before after
  on = record { keeps = (goes_nowhere old before).keeps; log_later = omega arith; source_later = later; sink_later = sink_later }

  closes_here : {T : Type 0} (r : Result T Stop)
      → OnOk r ((text : List ℕ) × Closes old.history.schema count (moment old view) text × Appends before.sink.held sink.held text)
      → IfErr r (StopsClosing old.history.schema count (moment old view) before.sink sink) → FollowsOpen count old old view before after (stop_of r)
  closes_here (Ok done) ok err = record {
    text = ok.0;
    follows = alone old.history.schema count (moment old view) before.left left ok.0 old.history.members None few (ok.1, refl) end;
    written = ok.2;
    cause = tt;
    whole = λ done was. was;
    on = on;
  }
  closes_here (Err Unwritten) ok err = record {
    text = err.0;
    follows = alone old.history.schema count (moment old view) before.left left err.0 old.history.members (Some Unwritten) few (inr err.1, refl)
        (weaker before.left left IsAtEnd (λ bytes rest. rest ≡ bytes) end (λ bytes rest none. none.1 ∙ sym none.0));
    written = err.2;
    cause = tt;
    whole = λ done. absurd cc;
    on = on;
  }
  closes_here (Err (Refused why)) ok err = subst (λ (w : Refusal). FollowsOpen count old old view before after (Some (Refused w))) (sym err.0) (record {
    text = [];
    follows = alone old.history.schema count (moment old view) before.left left [] old.history.members (Some (Refused Memory)) few (refl, inl refl, tt)
        (weaker before.left left IsAtEnd (λ _ _. Unit {0}) end (λ bytes rest none. tt));
    written = subst (λ (s : SinkState). Appends before.sink.held s.held []) (sym err.1) (Appends-nil before.sink.held);
    cause = tt;
    whole = λ done. absurd cc;
    on = on;
  })

-- for the end of the stream
pub closes : {T : Type 0} (count : ℕ) (old now : ReplicaState) (view view_now : CountView) (before between : Streams) (sink : SinkState) (r : Result T Stop) → count ≤ MAX_RECORDS
    → FindsEnd old now view view_now before between
    → OnOk r ((text : List ℕ) × Closes now.history.schema count (moment now view_now) text × Appends between.sink.held sink.held text)
    → IfErr r (StopsClosing now.history.schema count (moment now view_now) between.sink sink) → between.sink.faults ≤ sink.faults
    → FollowsOpen count old now view before (record { left = between.left; faults = between.faults; sink = sink }) (stop_of r)
closes count old now view view_now before between sink r few ends ok err later =
    let P : ReplicaState → CountView → SinkState → Type 0 = λ n v s.
    OnOk r ((text : List ℕ) × Closes n.history.schema count (moment n v) text × Appends s.held sink.held text) in
    let Q : ReplicaState → CountView → SinkState → Type 0 = λ n v s. IfErr r (StopsClosing n.history.schema count (moment n v) s sink) in
    let at : (R : ReplicaState → CountView → SinkState → Type 0) → R now view_now between.sink → R old view before.sink =
    λ R it. subst (λ (n : ReplicaState). R n view before.sink) ends.replica (subst (λ (v : CountView). R now v before.sink) ends.view_is (subst (λ (s : SinkState). R now view_now s) ends.sink it)) in
    subst (λ (n : ReplicaState). FollowsOpen count old n view before (record { left = between.left; faults = between.faults; sink = sink }) (stop_of r)) (sym ends.replica)
    (closes_here count old view before between.left between.faults sink few ends.end ends.later (at (λ n v s. s.faults ≤ sink.faults) later) r (at P ok) (at Q err))
