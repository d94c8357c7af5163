-- What the parts of two directories read as has one answer to `merge`, where it is sure of it.
use Rattle.std.proofs.Common.{◌≡◌, ℕ, true, List, Ok, Err, refl, sym, subst, ◌∙◌, ap, map}
use Rattle.std.proofs.lemmas.Bool.{true≢false}
use Rattle.row_check.specs.Checksum.{is_luhn}
use Rattle.update_codec.specs.Parts.{entry_of}
use Rattle.update_model.specs.Batch.{store_limits}
use Rattle.session_rules.specs.declared.end.End.TheVariants.{Done, Peer, Full}
use Rattle.session_rules.specs.Laws.{NoCollision}
use Rattle.sync_session.specs.Carrying.{HasRoom}
use Rattle.sync_session.specs.declared.pair.PairEnd.{PairEnd}
use Rattle.store_directory.specs.Stores.{StoreData}
use Rattle.schema_verdict.specs.declared.status.TheConstants.{DONE}
use Rattle.outcomes.specs.Comes.{is_done}
use Rattle.node_commands.specs.Merging.{IsSureOfMerge, MayMerge, Meets, MergeAnswer, TellsEnd, done, first_refused, full, peer, second_refused, united, with_both, without_first, without_second}
use Rattle.outcomes.specs.Outcome.{Outcome, status_of}
use Rattle.schema_verdict.specs.Verdict.{Prints}
use Rattle.outcomes.specs.StoreAnswers.{Readings}
use Rattle.outcomes.specs.Texts.{merged_text}
use Rattle.node_commands.proofs.Meeting.{is_done_end, told_apart}
use Rattle.outcomes.proofs.StoreOnce.{StoreLaws, read_or_refused, refused_once}

abbrev pub OneOfMerge : Type 0
OneOfMerge = (parts parts_other : Readings) (a b : Outcome) → MayMerge parts parts_other a → IsSureOfMerge parts parts_other b → status_of a ≡ status_of b

done_status : (outcome : Outcome) → is_done outcome ≡ true → status_of outcome ≡ DONE
done_status (Ok text) is = refl
done_status (Err refusal) is = absurd (true≢false (sym is))

prints_status : (outcome : Outcome) (text : List ℕ) → Prints outcome text → status_of outcome ≡ DONE
prints_status (Ok bytes) text printed = refl
prints_status (Err refusal) text printed = absurd printed

-- a session that ended done is told so
told_done : (ended : PairEnd) (outcome : Outcome) → ended.a ≡ Done → TellsEnd ended outcome → status_of outcome ≡ DONE
told_done ended outcome is (done also printed) = prints_status outcome (merged_text ended.gained_a ended.gained_b ended.turns) printed
told_done ended outcome is (peer fault also so) = absurd (told_apart is_done_end ended.a (Peer fault) Done refl refl also is)
told_done ended outcome is (full also so) = absurd (told_apart is_done_end ended.a Full Done refl refl also is)

module _ (memory memory_other memory_new memory_other_new : List ℕ) (added added_other : List (List ℕ)) (a : Outcome) where
  -- stores that go together and have room meet
  met_done : (one other : StoreData) → Meets one other memory memory_other memory_new memory_other_new added added_other a → one.schema.rule ≡ other.schema.rule
      → NoCollision (map entry_of one.members) (map entry_of other.members) → HasRoom store_limits one.members other.members → HasRoom store_limits other.members one.members → status_of a ≡ DONE
  met_done one other meets rule apart room room_other = told_done meets.ended a (meets.unites rule apart (meets.room apart room room_other)).done_a meets.tells

  module _ (stores : StoreLaws) (parts parts_other : Readings) (b : Outcome) where
    merge_once : MergeAnswer parts parts_other memory memory_other memory_new memory_other_new added added_other a → IsSureOfMerge parts parts_other b → status_of a ≡ status_of b
    merge_once (without_first r refuses none naught is) (first_refused s refused so) = ap status_of (is ∙ ap Err (refused_once stores parts r s refuses refused) ∙ sym so)
    merge_once (without_first r refuses none naught is) (second_refused one s has refused so) = absurd (read_or_refused stores parts one r has refuses)
    merge_once (without_first r refuses none naught is) (united one other has had rule apart room room_other so) = absurd (read_or_refused stores parts one r has refuses)
    merge_once (without_second one r has refuses none naught is) (first_refused s refused so) = absurd (read_or_refused stores parts one s has refused)
    merge_once (without_second one r has refuses none naught is) (second_refused two s had refused so) = ap status_of (is ∙ ap Err (refused_once stores parts_other r s refuses refused) ∙ sym so)
    merge_once (without_second one r has refuses none naught is) (united two other had has_other rule apart room room_other so) = absurd (read_or_refused stores parts_other other r has_other refuses)
    merge_once (with_both one other has has_other meets) (first_refused s refused so) = absurd (read_or_refused stores parts one s has refused)
    merge_once (with_both one other has has_other meets) (second_refused two s had refused so) = absurd (read_or_refused stores parts_other other s has_other refused)
    merge_once (with_both one other has has_other meets) (united two another had had_other rule apart room room_other so) =
        let same : one ≡ two = stores.one_store is_luhn parts.schema parts.updates one two has had in
        let same_other : other ≡ another = stores.one_store is_luhn parts_other.schema parts_other.updates other another has_other had_other in
        let meet : Meets two another memory memory_other memory_new memory_other_new added added_other a =
        subst (λ (s : StoreData). Meets s another memory memory_other memory_new memory_other_new added added_other a) same
        (subst (λ (s : StoreData). Meets one s memory memory_other memory_new memory_other_new added added_other a) same_other meets) in
        met_done two another meet rule apart room room_other ∙ sym (done_status b so)

pub answered_of_merge : StoreLaws → OneOfMerge
answered_of_merge stores parts parts_other a b may sure = merge_once may.0 may.1 may.2 may.3 may.4 may.5 a stores parts parts_other b may.6 sure
