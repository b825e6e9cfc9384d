-- What an invocation keeps of a session, whatever its service makes of it.
use Rattle.std.proofs.Common.{◌≡◌, true, subst, sym}
use Rattle.station_config.specs.declared.site.Site.{Site}
use Rattle.session_core.specs.declared.course.Course.{Course}
use Rattle.session_core.specs.declared.standing.Standing.{Standing}
use Rattle.session_core.specs.Course.{is_plain}
use Rattle.session_services.specs.Inquiry.{Replied}
use Rattle.session_services.specs.Service.{Invocation, invocation_kind}
use Rattle.session_services.specs.Served.{concluded_by}
use Rattle.session_core.specs.ServiceSteps.{permitted, with_invocation, Keeps}
use Rattle.session_core.proofs.Staying.{stays_answered}

pub keeps_invocation : (site : Site) (s : Standing) (i : Invocation) (reply : Replied)
    → Keeps s (with_invocation site s i reply)
keeps_invocation site s i reply =
    let same = stays_answered site s (invocation_kind i)
    (concluded_by s.service (permitted site s) i reply s.moment).answer in
    record {
      plain = λ e. subst (λ (c : Course). is_plain c ≡ true) (sym same.course) e;
      arrival = same.arrival;
      moment = same.moment;
    }
