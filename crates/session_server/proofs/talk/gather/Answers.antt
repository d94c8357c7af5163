use Rattle.std.proofs.Common.{◌∷◌, ◌++◌, [], false, inl, inr, Option, refl, subst, sym}
use Rattle.update_codec.specs.Parts.{entry_of}
use Rattle.session_rules.specs.State.{Item}
use Rattle.session_server.specs.declared.ending.Ending.{Ending}
use Rattle.session_server.specs.Talks.{IsTalk}
use Rattle.session_server.proofs.Passing.{still_self}
use Rattle.session_server.proofs.Talking.{belongs_somewhere, checked_under, gathered_belongs, gathered_talk, talk_stops}
use Rattle.session_server.proofs.talk.gather.Goals as goal

pub gather_update-requires : goal.gather_update-requires
gather_update-requires g c = record { belongs = belongs_somewhere c.args.talk.pass.seen c.args.talk.session c.requires.belongs }

pub returns-in-Ok-clause-goes : goal.returns-in-Ok-clause-goes
returns-in-Ok-clause-goes g c = record { still = still_self c.args.talk.pass; belongs = gathered_belongs c.args.talk.pass.seen c.args.talk.session c.gather_update.new.self c.args.update c.requires.belongs c.requires.under c.gather_update.ensures.stays }

pub returns-in-Ok-clause-talk : goal.returns-in-Ok-clause-talk
returns-in-Ok-clause-talk g c rule role start old held faults heard t = (
  heard ++ Item (entry_of c.args.update) ∷ [],
  inl refl,
  subst (λ (e : Option Ending). IsTalk rule role start old c.args.talk.pass c.gather_update.new.self false held faults (heard ++ Item (entry_of c.args.update) ∷ []) e) (sym c.over.ensures.value)
      (gathered_talk rule role start old c.args.talk.pass c.args.talk.session c.gather_update.new.self c.args.talk.is_fresh held faults heard c.args.update c.in-Ok.out t
      (checked_under rule start.first.seen c.args.talk.pass.seen c.args.update t.ruled t.seen_more c.requires.under) c.in-Ok.ensures.gathers c.gather_update.ensures.stays),
)

pub returns-in-Err-clause-goes : goal.returns-in-Err-clause-goes
returns-in-Err-clause-goes g c = record { still = still_self c.args.talk.pass; belongs = gathered_belongs c.args.talk.pass.seen c.args.talk.session c.gather_update.new.self c.args.update c.requires.belongs c.requires.under c.gather_update.ensures.stays }

pub returns-in-Err-clause-talk : goal.returns-in-Err-clause-talk
returns-in-Err-clause-talk g c rule role start old held faults heard t = (
  heard,
  inr (refl, refl, c.in-Err.ensures.failed, refl, refl, refl),
  talk_stops rule role start old c.args.talk.pass c.args.talk.pass c.args.talk.session c.gather_update.new.self c.args.talk.is_fresh held faults heard t (still_self c.args.talk.pass) (inr c.in-Err.ensures.failed),
)
