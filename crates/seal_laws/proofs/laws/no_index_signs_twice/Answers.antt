use Rattle.seal_laws.proofs.RunLaws.{closed_sound, history_sound, signed_once, signed_used, stays_used}
use Rattle.seal_laws.proofs.laws.no_index_signs_twice.Goals as goal

pub returns-clause-once : goal.returns-clause-once
returns-clause-once c start last uses tells none history = signed_once start last uses (closed_sound start tells none) history

pub returns-clause-used : goal.returns-clause-used
returns-clause-used c start last uses dir index tells none history has = signed_used start last uses dir index (closed_sound start tells none) history has

pub returns-clause-stays : goal.returns-clause-stays
returns-clause-stays c start mid last uses more dir index key tells none before held used after =
    stays_used mid last more dir index key (history_sound start mid uses (closed_sound start tells none) before) held used after
