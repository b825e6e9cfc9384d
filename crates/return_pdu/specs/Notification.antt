-- Notifications of a transfer buffer (CCSDS 911.1-B, annex A).
use Rattle.std.proofs.Common.{◌≡◌, ℕ, ℤ, Option, List, [], ◌∷◌, ◌⊎◌, inl, inr, refl}
use Rattle.ber_shape.specs.Content.{null, any_integer}
use Rattle.ber_shape.specs.Element.{Element, simple}
use Rattle.ber_shape.specs.Members.{Members, structured, last, ◌▸◌}
use Rattle.ber_shape.specs.Same.{element_as, members_as}
use Rattle.ber_shape.specs.Choice.{either}
use Rattle.sle_common.specs.InTable.{in_table}
use Rattle.sle_common.specs.Credentials.{credentials}
use Rattle.sle_common.specs.Time.{time}
use Rattle.sle_numbers.specs.LockStatus as lock_status
use Rattle.sle_numbers.specs.declared.lock_status.LockStatus.{LockStatus}
use Rattle.return_pdu.specs.declared.lock_loss.LockLoss.{LockLoss}
use Rattle.return_pdu.specs.declared.notification.Notification.{Notification}
use Rattle.return_pdu.specs.declared.notification.Notification.TheVariants.{Loss, Production}
use Rattle.return_pdu.specs.declared.notification.Notification.TheVariants.{Backlog, EndOfData}

abbrev pub lock : Element LockStatus
lock = in_table lock_status.number_of lock_status.all lock_status.each

-- when the lock was lost, and the locks of carrier, subcarrier and symbols
abbrev pub loss_fields : Members LockLoss
loss_fields = members_as (time ▸ lock ▸ lock ▸ last lock) (record {
  to = λ p. record { at = p.0; carrier = p.1.0; subcarrier = p.1.1.0; symbol = p.1.1.1 };
  from = λ x. (x.at, (x.carrier, (x.subcarrier, x.symbol)));
  there = λ x. refl;
  back = λ p. refl;
})

abbrev pub Notices : Type 0
Notices = ℤ ⊎ (Unit {0} ⊎ (Unit {0} ⊎ LockLoss))

abbrev pub notice_of : Notices → Notification
notice_of (inl status) = Production status
notice_of (inr (inl backlog)) = Backlog
notice_of (inr (inr (inl end))) = EndOfData
notice_of (inr (inr (inr loss))) = Loss loss.at loss.carrier loss.subcarrier loss.symbol

abbrev pub of_notice : Notification → Notices
of_notice (Loss at carrier subcarrier symbol) =
    inr (inr (inr (record {
      at = at;
      carrier = carrier;
      subcarrier = subcarrier;
      symbol = symbol;
    })))
of_notice (Production status) = inl status
of_notice Backlog = inr (inl tt)
of_notice EndOfData = inr (inr (inl tt))

pub notice_there : (n : Notification) → notice_of (of_notice n) ≡ n
notice_there (Loss at carrier subcarrier symbol) = refl
notice_there (Production status) = refl
notice_there Backlog = refl
notice_there EndOfData = refl

pub notice_back : (z : Notices) → of_notice (notice_of z) ≡ z
notice_back (inl status) = refl
notice_back (inr (inl backlog)) = refl
notice_back (inr (inr (inl end))) = refl
notice_back (inr (inr (inr loss))) = refl

-- [0] SEQUENCE the loss of a lock, [1] INTEGER the production status, [2] NULL the backlog was
-- given up, [3] NULL the end of data
abbrev pub notification : Element Notification
notification = element_as
    (either (0x81 ∷ []) (simple (0x81 ∷ []) any_integer refl)
    (either (0x82 ∷ []) (simple (0x82 ∷ []) null refl)
    (either (0x83 ∷ []) (simple (0x83 ∷ []) null refl) (structured (0xa0 ∷ []) loss_fields refl)
    refl refl) refl refl) refl refl)
    (record { to = notice_of; from = of_notice; there = notice_there; back = notice_back })

-- who sends, and what is told
pub record ToldContent : Type 0 where
  pub credentials : Option (List ℕ)
  pub notice : Notification

abbrev pub told_fields : Members ToldContent
told_fields = members_as (credentials ▸ last notification) (record {
  to = λ p. record { credentials = p.0; notice = p.1 };
  from = λ x. (x.credentials, x.notice);
  there = λ x. refl;
  back = λ p. refl;
})
