-- The calls that events name.
use Rattle.frame_select.specs.Want.{want_of}
use Rattle.station_book.specs.declared.event.Called.{Called}
use Rattle.station_book.specs.declared.event.Called.TheVariants.{Publish, Answer, Quit, Take, Done}
use Rattle.station_book.specs.declared.event.Called.TheVariants.{Interrupted, Uplink, Gone}
use Rattle.station_book.specs.State.{Call, publish, answer, quit, take, done, interrupted, uplink}
use Rattle.station_book.specs.State.{gone}

abbrev pub call_of : Called → Call
call_of (Publish entries) = publish entries.value
call_of (Answer door reading ask want) = answer door reading ask.value (want_of want)
call_of (Quit door) = quit door
call_of (Take reading) = take reading
call_of (Done run id reading) = done run id reading
call_of (Interrupted run id reading) = interrupted run id reading
call_of (Uplink production status reading) = uplink production status reading
call_of (Gone worker) = gone worker
