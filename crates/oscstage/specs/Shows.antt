-- What can be served.
use Rattle.std.specs.Prelude.{ℕ, ◌<◌, ◌≤◌, ◌+◌}
use Rattle.osc_links.specs.declared.limits.TheConstants.{MAX_LINKS}

-- a server that may have so many callers can serve so many links, each of which can end after so
-- many datagrams and quiets
pub record CanServe (links most datagrams quiets : ℕ) : Type 0 where
  pub callers : links + 2 ≤ most
  pub few : links ≤ MAX_LINKS
  pub count : 0 < datagrams
  pub idle : 0 < quiets
