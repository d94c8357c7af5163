use Rattle.key_index.proofs.CreateLaws.{new_store}
use Rattle.key_index.proofs.store.KeyStore.create.Goals as goal

pub over-requires : goal.over-requires
over-requires g c = new_store _ _ _ c.in-Ok.ensures.creates
