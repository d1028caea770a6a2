use Rattle.table_sites.proofs.Stores.{site_put}
use borrow.Author.Rules.{rules}
use Rattle.table_sites.proofs.change.put_site.Goals as goal

pub returns : goal.returns
returns c = search (rules, site_put)
