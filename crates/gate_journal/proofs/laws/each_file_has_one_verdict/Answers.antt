use Rattle.std.proofs.Common.{◌++◌, drop, ap}
use Rattle.gate_journal.specs.File.{gated}
use Rattle.gate_journal.specs.Reading.{stands, no_journal, damaged}
use Rattle.gate_journal.proofs.Verdicts.{some_verdict, one_place, header_leads}
use Rattle.gate_journal.proofs.laws.each_file_has_one_verdict.Goals as goal

pub returns-clause-some : goal.returns-clause-some
returns-clause-some c =
    some_verdict c.read_where_spelled.ensures c.archive_grows.ensures.archive

pub returns-clause-one : goal.returns-clause-one
returns-clause-one c (stands a) (stands b) file all first second =
    ap stands (c.a_file_stands_for_one_list.ensures.list a b file first second)
returns-clause-one c (stands a) (no_journal q) file all first second =
    absurd (c.a_refused_file_stands_for_nothing.ensures.no_journal q first.0 a file second first.1)
returns-clause-one c (stands a) (damaged q) file all first second =
    absurd (c.a_refused_file_stands_for_nothing.ensures.damaged q first.0 a file all second first.1)
returns-clause-one c (no_journal p) (stands b) file all first second =
    absurd (c.a_refused_file_stands_for_nothing.ensures.no_journal p second.0 b file first second.1)
returns-clause-one c (no_journal p) (no_journal q) file all first second =
    ap no_journal (one_place p q file first second)
returns-clause-one c (no_journal p) (damaged q) file all first second =
    absurd (header_leads p (gated second.led.batches ++ drop second.gate file) file second.led.is
    first)
returns-clause-one c (damaged p) (stands b) file all first second =
    absurd (c.a_refused_file_stands_for_nothing.ensures.damaged p second.0 b file all first
    second.1)
returns-clause-one c (damaged p) (no_journal q) file all first second =
    absurd (header_leads q (gated first.led.batches ++ drop first.gate file) file first.led.is
    second)
returns-clause-one c (damaged p) (damaged q) file all first second =
    ap damaged (c.a_refused_file_stands_for_nothing.ensures.place p q file all first second)
