-- TRANSFER-DATA of the forward CLTU service and its return (CCSDS 912.1-B, annex A); the length of
-- a CLTU is this product's own.
use Rattle.std.proofs.Common.{◌≡◌, ℕ, zero, suc, ℤ, Bool, true, false, Option, List, [], ◌∷◌}
use Rattle.std.proofs.Common.{Result, refl, arith}
use Rattle.ber_shape.specs.Content.{octet_string}
use Rattle.ber_shape.specs.Element.{Element, simple}
use Rattle.ber_shape.specs.Members.{Members, structured, last, ◌▸◌}
use Rattle.ber_shape.specs.Same.{members_as, element_where}
use Rattle.cds_time.specs.declared.cds.Cds.{Cds}
use Rattle.sle_common.specs.declared.diagnostic.Diagnostic.{Diagnostic}
use Rattle.sle_common.specs.Answer.{confirmation}
use Rattle.sle_common.specs.Credentials.{credentials, credentials_of}
use Rattle.sle_common.specs.Natural.{natural, IsBetween}
use Rattle.sle_common.specs.Numbers.{invoke_id, number}
use Rattle.sle_common.specs.Time.{conditional_time}
use Rattle.fcltu_pdu.specs.declared.cltu_transfer.CltuTransfer.{CltuTransfer}
use Rattle.fcltu_pdu.specs.declared.transfer_return.TransferReturn.{TransferReturn as CodeTransferReturn}
use Rattle.fcltu_pdu.specs.UnsignedLong.{unsigned_long}

abbrev pub wanted_of : ℕ → Bool
wanted_of zero = true
wanted_of (suc n) = false

abbrev pub of_wanted : Bool → ℕ
of_wanted true = 0
of_wanted false = 1

pub wanted_there : (wanted : Bool) → Unit {0}
    → IsBetween 0 1 (of_wanted wanted) × (wanted_of (of_wanted wanted) ≡ wanted)
wanted_there true holds = (record { least_so = omega arith; greatest_so = omega arith }, refl)
wanted_there false holds = (record { least_so = omega arith; greatest_so = omega arith }, refl)

pub wanted_back : (n : ℕ) → IsBetween 0 1 n → Unit {0} × (of_wanted (wanted_of n) ≡ n)
wanted_back zero fits = (tt, refl)
wanted_back (suc n) fits = (tt, omega (arith, fits.greatest_so))

-- whether a notice of the radiation is wanted: 0 it is, 1 it isn't
abbrev pub notification : Element Bool
notification = element_where (natural (0x02 ∷ []) 0 1 refl refl) (record {
  to = wanted_of;
  from = of_wanted;
  Holds = λ wanted. Unit {0};
  there = wanted_there;
  back = wanted_back;
})

abbrev pub cltu : Element (List ℕ)
cltu = simple (0x04 ∷ []) (octet_string 1 65536) refl

-- what a TRANSFER-DATA says: who sends, its number, the CLTU's identification, the times between
-- which its radiation starts, the delay after it in microseconds, whether a notice is wanted, and
-- the CLTU
pub record Transfer : Type 0 where
  pub credentials : Option (List ℕ)
  pub invoke : ℕ
  pub id : ℕ
  pub earliest : Option Cds
  pub latest : Option Cds
  pub radiation_delay : ℕ
  pub wanted : Bool
  pub octets : List ℕ

abbrev pub transfer_of : CltuTransfer → Transfer
transfer_of t = record {
  credentials = credentials_of t.credentials;
  invoke = t.invoke;
  id = t.id;
  earliest = t.earliest;
  latest = t.latest;
  radiation_delay = t.radiation_delay;
  wanted = t.wanted;
  octets = t.octets.now;
}

abbrev pub transfer_fields : Members Transfer
transfer_fields = members_as
    (credentials ▸ invoke_id ▸ unsigned_long ▸ conditional_time ▸ conditional_time ▸ unsigned_long
    ▸ notification ▸ last cltu)
    (record {
      to = λ p. record {
        credentials = p.0;
        invoke = p.1.0;
        id = p.1.1.0;
        earliest = p.1.1.1.0;
        latest = p.1.1.1.1.0;
        radiation_delay = p.1.1.1.1.1.0;
        wanted = p.1.1.1.1.1.1.0;
        octets = p.1.1.1.1.1.1.1;
      };
      from = λ t. (
        t.credentials,
        (
          t.invoke,
          (
            t.id,
            (t.earliest, (t.latest, (t.radiation_delay, (t.wanted, t.octets)))),
          ),
        ),
      );
      there = λ t. refl;
      back = λ p. refl;
    })

-- a SEQUENCE under [10]
abbrev pub transfer_pdu : Element Transfer
transfer_pdu = structured (0xaa ∷ []) transfer_fields refl

-- what its return says: the identification that is expected next, the octets that are free, and
-- that the CLTU was queued or why not
pub record TransferReturn : Type 0 where
  pub credentials : Option (List ℕ)
  pub invoke : ℕ
  pub next : ℕ
  pub free : ℤ
  pub result : Result (Unit {0}) Diagnostic

abbrev pub transfer_return_of : CodeTransferReturn → TransferReturn
transfer_return_of t = record {
  credentials = credentials_of t.credentials;
  invoke = t.invoke;
  next = t.next;
  free = t.free;
  result = t.result;
}

abbrev pub transfer_return_fields : Members TransferReturn
transfer_return_fields = members_as
    (credentials ▸ invoke_id ▸ unsigned_long ▸ number ▸ last confirmation)
    (record {
      to = λ p. record {
        credentials = p.0;
        invoke = p.1.0;
        next = p.1.1.0;
        free = p.1.1.1.0;
        result = p.1.1.1.1;
      };
      from = λ t. (t.credentials, (t.invoke, (t.next, (t.free, t.result))));
      there = λ t. refl;
      back = λ p. refl;
    })

-- a SEQUENCE under [11]
abbrev pub transfer_return_pdu : Element TransferReturn
transfer_return_pdu = structured (0xab ∷ []) transfer_return_fields refl
