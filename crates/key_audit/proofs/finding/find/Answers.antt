use Rattle.key_audit.proofs.Listing.{are_found}
use Rattle.key_audit.proofs.finding.find.Goals as goal

pub returns : goal.returns
returns g c =
    are_found (g.H.Holder.rule c.args.holder.now) (g.H.Holder.members c.args.holder.now) c.in_ok-found.found c.len.ensures.held.checked c.fields_of_spelling.ensures.author
    c.len-2.ensures.ordered c.in_ok-found.ensures c.in_ok-doubles.doubles.items c.in_ok-doubles.ensures
