-- What contracts see of the PDUs.
use Rattle.std.specs.Prelude.{ℕ}
use Rattle.sle_common.specs.Credentials.{credentials_of}
use Rattle.sle_common.specs.InstanceRef.{parts_of}
use Rattle.bind_pdu.specs.declared.bind.Bind.{Bind}
use Rattle.bind_pdu.specs.declared.bind_return.BindReturn.{BindReturn}
use Rattle.bind_pdu.specs.declared.unbind.Unbind.{Unbind}
use Rattle.bind_pdu.specs.declared.unbind_return.UnbindReturn.{UnbindReturn}
use Rattle.bind_pdu.specs.declared.peer_abort.PeerAbort.{PeerAbort}
use Rattle.bind_pdu.specs.Binding.{BindContent, BindReturnContent}
use Rattle.bind_pdu.specs.Unbinding.{UnbindContent, UnbindReturnContent}

abbrev pub bind_of : Bind → BindContent
bind_of b = record {
  credentials = credentials_of b.credentials;
  initiator = b.initiator.now;
  port = b.port.now;
  service = b.service;
  version = b.version;
  instance = parts_of b.instance;
}

abbrev pub bind_return_of : BindReturn → BindReturnContent
bind_return_of r = record {
  credentials = credentials_of r.credentials;
  responder = r.responder.now;
  result = r.result;
}

abbrev pub unbind_of : Unbind → UnbindContent
unbind_of u = record { credentials = credentials_of u.credentials; reason = u.reason }

abbrev pub unbind_return_of : UnbindReturn → UnbindReturnContent
unbind_return_of r = record { credentials = credentials_of r.credentials }

abbrev pub diagnostic_of : PeerAbort → ℕ
diagnostic_of abort = abort.diagnostic
