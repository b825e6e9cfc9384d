use Rattle.std.proofs.Common.{◌++◌, ◌∷◌, [], sym, ◌∙◌, arith}
use Rattle.gate_journal.specs.File.{gated, header}
use Rattle.gate_journal.proofs.Again.{behind_led, entries_behind, read_there, one_damage}
use Rattle.gate_journal.proofs.Unique.{same_rest}
use Rattle.gate_journal.proofs.Verdicts.{header_leads}
use Rattle.gate_journal.proofs.laws.a_refused_file_stands_for_nothing.Goals as goal

-- a damaged file stands for nothing
pub returns-clause-damaged : goal.returns-clause-damaged
returns-clause-damaged c place there entries file all damaged stands =
    let follows = behind_led c.read_back.ensures _ _ _ _ file damaged.led stands in
    let read = read_there c.read_where_spelled.ensures c.archive_grows.ensures.archive
    damaged.entries follows.more file stands.rest damaged.gate stands.gate all follows.each
    (rw (entries_behind _ _ _ _ file _ _ damaged.led stands follows) at stands.leads.archive)
    stands.shut follows.octets in
    cc (read.1, damaged.fault)

-- and so does one that is no journal
pub returns-clause-no_journal : goal.returns-clause-no_journal
returns-clause-no_journal c place there entries file other stands =
    header_leads place (gated stands.batches ++ stands.gate ∷ stands.rest) file stands.is other

pub returns-clause-place : goal.returns-clause-place
returns-clause-place c p q file all first second =
    let one = first.led in
    let other = second.led in
    one_damage c.read_where_spelled.ensures c.read_back.ensures c.archive_grows.ensures.archive file
    all one.batches other.batches [] _ _ p q one.leads.each other.leads.each
    (rw one.leads.entries_are at one.leads.archive)
    (rw other.leads.entries_are at other.leads.archive)
    (same_rest header _ _ (sym one.is ∙ other.is))
    (omega (arith, one.leads.there, other.leads.there))
    (rw one.leads.entries_are at first.fault) (rw other.leads.entries_are at second.fault)
