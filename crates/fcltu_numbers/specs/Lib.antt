pub mod CltuDeliveryMode
pub mod CltuNotificationType
pub mod CltuProductionStatus
pub mod CltuStartDiagnostic
pub mod CltuStatus
pub mod CltuThrowEventDiagnostic
pub mod CltuTransferDataDiagnostic
pub mod UplinkStatus
