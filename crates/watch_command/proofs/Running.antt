-- Turns, one after another.
use Rattle.std.proofs.Common.{◌≡◌, ℕ, ◌+◌, List, [], ◌∷◌, ◌++◌, length, refl, sym, ap, subst, ◌∙◌, append-nil, append_assoc, length-append, arith, Option, Some}
use Rattle.std.specs.Io.KnownBytes.{Appends, Consumes}
use Rattle.std.proofs.KnownBytes.{Appends-nil, Appends-trans, Consumes-nil, Consumes-trans}
use Rattle.bec_bytes.specs.Framed.{framed, stream_of}
use Rattle.bec_bytes.proofs.Frames.{stream_of-nil, stream_of-push}
use Rattle.bec_bytes.proofs.ReadFrames.{behind}
use Rattle.std.proofs.lemmas.List.Concat.{flat_map-append}
use Rattle.schema.specs.Data.{SchemaData}
use Rattle.replica.specs.Holding.{IsWhole, keeps_itself, keeps_on}
use Rattle.replica.specs.Replicas.{ReplicaState}
use Rattle.outcomes.specs.declared.refusal.Refusal.TheVariants as refusals
use Rattle.watch_command.specs.Ending.{HasCause, Leaves, Streams}
use Rattle.watch_command.specs.Steps.{FollowsOpen, GoesOn, TakesTurn, moment}
use Rattle.watch_command.specs.Watching.{CountView, Ends, Follows, Moment, Turn, Turns}
use Rattle.watch_command.specs.declared.stop.Stop.{Stop}
use Rattle.watch_command.specs.declared.stop.Stop.TheVariants.{Refused}
use Rattle.watch_command.proofs.Writing.{rose_later, writes_then}

stream_then : (front behind : List (List ℕ)) → stream_of (front ++ behind) ≡ stream_of front ++ stream_of behind
unfolding stream_of
stream_then front behind = flat_map-append framed front behind

-- turns, and others behind them
turns_then : (schema : SchemaData) (count : ℕ) (first mid last : Moment) (records more : List (List ℕ)) (told rest : List ℕ) → Turns schema count first records told mid
    → Turns schema (count + length records) mid more rest last → Turns schema count first (records ++ more) (told ++ rest) last
turns_then schema count first mid last [] more told rest (none, same) after =
    subst (λ (m : Moment). Turns schema count m more (told ++ rest) last) same
    (subst (λ (t : List ℕ). Turns schema count mid more (t ++ rest) last) (sym none)
    (subst (λ (n : ℕ). Turns schema n mid more rest last) (omega arith) after))
turns_then schema count first mid last (bytes ∷ records) more told rest (next, front, back, turn, turns, all) after = (
  next,
  front,
  back ++ rest,
  turn,
  turns_then schema (count + 1) next mid last records more back rest turns (subst (λ (n : ℕ). Turns schema n mid more rest last) (omega arith) after),
  ap (λ (t : List ℕ). t ++ rest) all ∙ append_assoc front back rest,
)

-- So many records were taken and told.
pub record HasTaken (schema : SchemaData) (first : Moment) (count : ℕ) (now : Moment) (before after : Streams) : Type 0 where
  pub records : List (List ℕ)
  pub told : List ℕ
  pub counted : count ≡ length records
  pub turns : Turns schema 0 first records told now
  pub came : Consumes before.left after.left (stream_of records)
  pub written : Appends before.sink.held after.sink.held told

pub taken_none : (schema : SchemaData) (first : Moment) (streams : Streams) → HasTaken schema first 0 first streams streams
taken_none schema first streams = record {
  records = [];
  told = [];
  counted = refl;
  turns = (refl, refl);
  came = subst (Consumes streams.left streams.left) (sym stream_of-nil) (Consumes-nil streams.left);
  written = Appends-nil streams.sink.held;
}

pub taken_more : (schema : SchemaData) (first mid new : Moment) (count : ℕ) (before between after : Streams) (bytes text : List ℕ) → HasTaken schema first count mid before between
    → Turn schema (count + 1) mid bytes text new → Consumes between.left after.left (framed bytes) → Appends between.sink.held after.sink.held text
    → HasTaken schema first (count + 1) new before after
taken_more schema first mid new count before between after bytes text taken turn came written =
    let counted = taken.counted in
    record {
      records = taken.records ++ bytes ∷ [];
      told = taken.told ++ text;
      counted = omega (arith, length-append taken.records (bytes ∷ []), counted);
      turns = turns_then schema 0 first mid new taken.records (bytes ∷ []) taken.told text taken.turns
          (subst (λ (n : ℕ). Turns schema n mid (bytes ∷ []) text new) (omega (arith, counted)) (new, text, [], turn, (refl, refl), sym (append-nil text)));
      came = subst (Consumes before.left after.left) (sym (stream_of-push taken.records bytes)) (Consumes-trans before.left between.left after.left (stream_of taken.records) (framed bytes) taken.came came);
      written = Appends-trans before.sink.held between.sink.held after.sink.held taken.told text taken.written written;
    }

-- those that are taken behind them
follows_then : (schema : SchemaData) (first mid : Moment) (count : ℕ) (before between after : Streams) (text : List ℕ) (members : List (List ℕ)) (stop : Option Stop)
    → (taken : HasTaken schema first count mid before between) → Follows schema count mid between.left after.left text members stop
    → Follows schema 0 first before.left after.left (taken.told ++ text) members stop
follows_then schema first mid count before between after text members stop taken follows =
    let counted = taken.counted in
    let few = follows.few in
    let long = length-append taken.records follows.records in
    let many : count + length follows.records ≡ 0 + length (taken.records ++ follows.records) = omega (arith, long, counted) in
    let P : List ℕ → List ℕ → Type 0 = λ input rest.
    (bytes : List ℕ) × (input ≡ stream_of follows.records ++ bytes) × Leaves schema.rule follows.last.members (count + length follows.records) stop bytes rest in
    let Q : List ℕ → List ℕ → Type 0 = λ input rest. (bytes : List ℕ) × (input ≡ stream_of (taken.records ++ follows.records) ++ bytes)
    × Leaves schema.rule follows.last.members (0 + length (taken.records ++ follows.records)) stop bytes rest in
    record {
      records = taken.records ++ follows.records;
      told = taken.told ++ follows.told;
      last = follows.last;
      closing = follows.closing;
      few = omega (arith, many, few);
      turns = turns_then schema 0 first mid follows.last taken.records follows.records taken.told follows.told taken.turns
          (subst (λ (n : ℕ). Turns schema n mid follows.records follows.told follows.last) (omega (arith, counted)) follows.turns);
      ends = subst (λ (n : ℕ). Ends schema n follows.last stop follows.closing members) many follows.ends;
      all = ap (λ (t : List ℕ). taken.told ++ t) follows.all ∙ sym (append_assoc taken.told follows.told follows.closing);
      read = behind before.left between.left after.left (stream_of taken.records) P Q taken.came follows.read
          (λ input rest p. (
            p.0,
            ap (λ (w : List ℕ). stream_of taken.records ++ w) p.1 ∙ sym (append_assoc (stream_of taken.records) (stream_of follows.records) p.0)
                ∙ ap (λ (w : List ℕ). w ++ p.0) (sym (stream_then taken.records follows.records)),
            subst (λ (n : ℕ). Leaves schema.rule follows.last.members n stop p.0 rest) many p.2,
          ));
    }

pub goes_nowhere : (replica : ReplicaState) (streams : Streams) → GoesOn replica replica streams streams
goes_nowhere replica streams = record { keeps = keeps_itself replica; log_later = omega arith; source_later = omega arith; sink_later = omega arith }

pub goes_on : (old mid new : ReplicaState) (before between after : Streams) → GoesOn old mid before between → GoesOn mid new between after → GoesOn old new before after
goes_on old mid new before between after first second =
    let a = first.log_later in let b = second.log_later in let c = first.source_later in let d = second.source_later in let e = first.sink_later in let f = second.sink_later in
    record {
      keeps = keeps_on old mid new first.keeps second.keeps;
      log_later = omega (arith, a, b);
      source_later = omega (arith, c, d);
      sink_later = omega (arith, e, f);
    }

cause_later : (old mid new : ReplicaState) (before between after : Streams) (stop : Option Stop) → GoesOn old mid before between → HasCause mid.log.faults new.log.faults between.faults after.faults stop
    → HasCause old.log.faults new.log.faults before.faults after.faults stop
cause_later old mid new before between after (Some (Refused refusals.StoreFault)) on cause = rose_later old.log.faults mid.log.faults new.log.faults on.log_later cause
cause_later old mid new before between after (Some (Refused refusals.Stream)) on cause = rose_later before.faults between.faults after.faults on.source_later cause
cause_later old mid new before between after stop on cause = cause

-- How far a watch is.
pub record IsAsFar (old now : ReplicaState) (view view_now : CountView) (count : ℕ) (before after : Streams) : Type 0 where
  pub taken : HasTaken old.history.schema (moment old view) count (moment now view_now) before after
  pub on : GoesOn old now before after
  pub whole : IsWhole old → IsWhole now

pub far_none : (old : ReplicaState) (view : CountView) (streams : Streams) → IsAsFar old old view view 0 streams streams
far_none old view streams = record { taken = taken_none old.history.schema (moment old view) streams; on = goes_nowhere old streams; whole = λ was. was }

pub far_more : (old mid new : ReplicaState) (view view_mid view_new : CountView) (count : ℕ) (before between after : Streams) → IsAsFar old mid view view_mid count before between
    → TakesTurn count mid new view_mid view_new between after → IsAsFar old new view view_new (count + 1) before after
far_more old mid new view view_mid view_new count before between after far turn = record {
  taken = taken_more old.history.schema (moment old view) (moment mid view_mid) (moment new view_new) count before between after turn.bytes turn.text far.taken
      (subst (λ (s : SchemaData). Turn s (count + 1) (moment mid view_mid) turn.bytes turn.text (moment new view_new)) far.on.keeps.store.schema turn.turn) turn.came turn.written;
  on = goes_on old mid new before between after far.on turn.on;
  whole = λ was. turn.whole (far.whole was);
}

-- what follows behind the records that were taken
pub followed : (old mid new : ReplicaState) (view view_mid : CountView) (count : ℕ) (before between after : Streams) (stop : Option Stop) → IsAsFar old mid view view_mid count before between
    → FollowsOpen count mid new view_mid between after stop → FollowsOpen 0 old new view before after stop
followed old mid new view view_mid count before between after stop far work = record {
  text = far.taken.told ++ work.text;
  follows = follows_then old.history.schema (moment old view) (moment mid view_mid) count before between after work.text new.history.members stop far.taken
      (subst (λ (s : SchemaData). Follows s count (moment mid view_mid) between.left after.left work.text new.history.members stop) far.on.keeps.store.schema work.follows);
  written = writes_then before.sink between.sink after.sink far.taken.told far.taken.written far.on.sink_later work.text stop work.written;
  cause = cause_later old mid new before between after stop far.on work.cause;
  whole = λ done was. work.whole done (far.whole was);
  on = goes_on old mid new before between after far.on work.on;
}
