mod AgreeingSo
mod AllKeys
mod KeysParted
mod MeetingSo
