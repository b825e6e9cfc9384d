pub mod DoorState
