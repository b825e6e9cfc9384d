use Rattle.std.proofs.Common.{[], sym, append-nil, arith}
use Rattle.ber_core.specs.Written.{Written, Appends}
use Rattle.ber_core.specs.Spelling.{canonical}
use Rattle.ber_core.specs.Parts.{appends_two}
use Rattle.fcltu_pdu.proofs.cltu_report.CltuReportMembers.write.Goals as goal

nothing : (writer : Written) → Appends writer writer []
nothing writer = (sym (append-nil writer.octets), omega arith)

pub returns : goal.returns
unfolding canonical
returns c =
    appends_two _ _ _ _ _ c.write.ensures (appends_two _ _ _ _ _ c.write-2.ensures
    (appends_two _ _ _ _ _ c.write-3.ensures (appends_two _ _ _ _ _ c.write-4.ensures
    (appends_two _ _ _ _ _ c.write-5.ensures (appends_two _ _ _ _ _ c.write-6.ensures
    (appends_two _ _ _ _ _ c.write-7.ensures (appends_two _ _ _ _ _ c.write-8.ensures
    (appends_two _ _ _ _ _ c.write-9.ensures (nothing _)))))))))
