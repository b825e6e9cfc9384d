use Rattle.std.proofs.Common.{append_assoc}
use Rattle.status_page.specs.Json.{end_members}
use Rattle.status_page.proofs.json_parts.put_end_members.Goals as goal

pub returns-clause-tokens : goal.returns-clause-tokens
unfolding end_members
returns-clause-tokens c =
    rw (c.in_ok-put_seconds.ensures.tokens, append_assoc) at c.put_end_words.ensures.tokens
