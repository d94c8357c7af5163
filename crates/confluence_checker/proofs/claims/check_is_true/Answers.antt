use Rattle.schema.proofs.RowKinds.{fits_kinds}
use Rattle.confluence_checker.proofs.claims.check_is_true.Goals as goal

pub check_holds-requires-clause-kinds : goal.check_holds-requires-clause-kinds
check_holds-requires-clause-kinds g c κs within = fits_kinds c.args.columns.now c.args.values.now c.requires.fits
