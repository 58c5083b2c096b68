mod Entering
mod Printed
