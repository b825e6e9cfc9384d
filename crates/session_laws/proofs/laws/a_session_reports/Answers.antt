use Rattle.session_laws.proofs.Reports.{reports_come_in_time, requests_are_told}
use Rattle.session_laws.proofs.Reports.{frames_are_counted, reports_say, tells_in_block}
use Rattle.session_laws.proofs.laws.a_session_reports.Goals as goal

pub returns-clause-in_time : goal.returns-clause-in_time
returns-clause-in_time c = reports_come_in_time

pub returns-clause-asked : goal.returns-clause-asked
returns-clause-asked c = requests_are_told

pub returns-clause-counts : goal.returns-clause-counts
returns-clause-counts c = frames_are_counted

pub returns-clause-say : goal.returns-clause-say
returns-clause-say c = reports_say

pub returns-clause-told : goal.returns-clause-told
returns-clause-told c = tells_in_block
