mod Reading
mod Building
mod OneFault
mod PlainWords
mod Examples
