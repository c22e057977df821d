-- For the contracts of the code: one list of resolved values after another (`then` of Merging is one list of statements after another). Assumes
-- nothing.
use Rattle.meaning.specs.Resolving.{Resolved, end, resolved}

-- One list of resolved values after another.
unfoldable pub joins : Resolved → Resolved → Resolved
joins end b = b
joins (resolved t us a) b = resolved t us (joins a b)
